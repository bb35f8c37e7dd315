-- The record that is handed back is the one that came in, with another place, where its flag is 0 or 1 (`state_kept`, `flag_back`).
use mathlib.Core.Path.{sym, ◌∙◌, ap}
use Rattle.subobject.specs.Segments.{segment_with}
use Rattle.writer_state.specs.declared.Writer.{Writer}
use Rattle.writer_state.specs.Written.{written_of}
use Rattle.writer.specs.Writing.{add_answer, add_buffer}
use Rattle.border_records.specs.Records.{bit}
use Rattle.border_segment.specs.Segments.{outline_in}
use Rattle.border_writing.proofs.Laws.{by_writer, state_kept, flag_back}
use Rattle.border_writing.proofs.add.Goals as goal

pub returns-then-writer-gt1 : goal.returns-then-writer-gt1
returns-then-writer-gt1 c =
    let b = c.args.buffer.now in
    let segment = segment_with (outline_in c.args.outline) c.args.sid.now c.args.nai.now c.args.structure.now in
    let told = by_writer (λ (w : Writer). add_answer b w segment) (λ (w : Writer). add_buffer b w segment) _ _ _ _ c.args.writer
    c.writer_in.ensures.writer c.added-w.ensures.answer c.added-w.ensures.octets c.written_out.ensures.written in
    record { answer = told.0; octets = told.1 }

pub placed-requires : goal.placed-requires
placed-requires c =
    let w = c.writer_in.ensures.writer in
    let segment = segment_with (outline_in c.args.outline) c.args.sid.now c.args.nai.now c.args.structure.now in
    let s = state_kept c.args.buffer.now c.writer_in.result segment (written_of c.added-w.result) c.added-w.ensures.answer in
    (flag_back c.args.writer.ero c.if-writer-gt1.false ∙ ap bit (sym (s.0 ∙ ap (λ (a : Writer). a.ero) w)), sym (s.1 ∙ ap (λ (a : Writer). a.form) w))

pub returns : goal.returns
returns c =
    let b = c.args.buffer.now in
    let segment = segment_with (outline_in c.args.outline) c.args.sid.now c.args.nai.now c.args.structure.now in
    let told = by_writer (λ (w : Writer). add_answer b w segment) (λ (w : Writer). add_buffer b w segment) _ _ _ _ c.args.writer
    c.writer_in.ensures.writer c.added-w.ensures.answer c.added-w.ensures.octets c.placed.ensures.placed in
    record { answer = told.0; octets = told.1 }
