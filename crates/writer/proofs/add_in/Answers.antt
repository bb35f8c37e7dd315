-- A refusal by its number (`refused_added`), an acceptance by what was found of the segment (`accepted_added`).
use mathlib.Core.Path.{sym, ◌∙◌, ap}
use lib.ListN.{length}
use native.Mathlib.Omega.{arith}
use Rattle.answers.proofs.Results.{numbered}
use Rattle.subobject.specs.declared.segment.Segment.{Segment}
use Rattle.writer_spare.specs.Lending.{lent_of}
use Rattle.writer_rules.specs.Refusals.{add_number}
use Rattle.writer.specs.Writing.{add_answer_in, add_buffer_in}
use Rattle.writer.proofs.Laws.{refused_added, placed_in, end_most, write_asks, accepted_added}
use borrow.Author.Rules.{rules}
use Rattle.writer.proofs.add_in.Goals as goal

pub returns-in-Err : goal.returns-in-Err
returns-in-Err g c =
    let a = c.args in
    let told = refused_added g.L.Layout.layout (lent_of a.x) a.buf.now a.writer c.in-Err.ensures.number (numbered c.in-Err.reason) c.refuse.ensures.refused in
    record { answer = told.0; buffer = told.1 }

pub slice_bounds-write-count : goal.slice_bounds-write-count
slice_bounds-write-count g c =
    let a = c.args in
    let k = c.in-Ok.ensures.piece in
    let z = ap (λ (s : Segment). add_number g.L.Layout.layout s a.writer.ero a.writer.at (length a.buf.now)) k.0 ∙ sym c.in-Ok.ensures.number in
    let p = (placed_in k.1 a.buf.now a.writer z).place in
    omega arith

pub slice_bounds-write-start : goal.slice_bounds-write-start
slice_bounds-write-start g c =
    let a = c.args in
    let k = c.in-Ok.ensures.piece in
    let z = ap (λ (s : Segment). add_number g.L.Layout.layout s a.writer.ero a.writer.at (length a.buf.now)) k.0 ∙ sym c.in-Ok.ensures.number in
    let p = (placed_in k.1 a.buf.now a.writer z).place in
    search rules

pub write-requires : goal.write-requires
write-requires g c =
    let a = c.args in
    let k = c.in-Ok.ensures.piece in
    let z = ap (λ (s : Segment). add_number g.L.Layout.layout s a.writer.ero a.writer.at (length a.buf.now)) k.0 ∙ sym c.in-Ok.ensures.number in
    write_asks k.1 a.buf.now a.writer z

pub overflow_add-writer : goal.overflow_add-writer
overflow_add-writer g c =
    let a = c.args in
    let k = c.in-Ok.ensures.piece in
    let z = ap (λ (s : Segment). add_number g.L.Layout.layout s a.writer.ero a.writer.at (length a.buf.now)) k.0 ∙ sym c.in-Ok.ensures.number in
    omega (arith, end_most k.1 a.buf.now a.writer z)

pub returns-in-Ok : goal.returns-in-Ok
returns-in-Ok g c =
    let a = c.args in
    let form = g.L.Layout.layout in
    let k = c.in-Ok.ensures.piece in
    let z = ap (λ (s : Segment). add_number form s a.writer.ero a.writer.at (length a.buf.now)) k.0 ∙ sym c.in-Ok.ensures.number in
    let told = accepted_added k.1 a.buf.now a.writer z c.accept.ensures.accepted c.write.ensures.written in
    record { answer = told.0 ∙ ap (λ (s : Segment). add_answer_in a.buf.now form a.writer s) k.0; buffer = told.1 ∙ ap (λ (s : Segment). add_buffer_in a.buf.now form a.writer s) k.0 }
