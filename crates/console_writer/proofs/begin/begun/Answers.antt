-- Whether a begin is refused depends on whether its buffer has four octets (`Laws`), so that the trial's answer is the new buffer's; a refused one leaves
-- all as it was, and an accepted one fills the first octets of the memory.
use Rattle.console_writer.proofs.Laws.{begin_trial, begin_keeps}
use Rattle.answers.proofs.Kept.{kept_old, kept_new}
use Rattle.writer_state.specs.Written.{Written}
use Rattle.writer_state.proofs.Laws.{number_refused, number_accepted}
use Rattle.console_writer.specs.WriterLines.{fresh_buffer}
use Rattle.writer_begin_finish.specs.Ends.{begin_answer, begin_buffer}
use lib.Seq.{length-take-le, take_at}
use lib.ListN.{drop}
use Prim.Native.Nat.{ℕ}
use mathlib.Core.Path.{◌≡◌, ◌∙◌, ap, sym}
use native.Mathlib.Omega.{arith}
use Rattle.console_writer.proofs.begin.begun.Goals as goal

pub returns-then-is_err : goal.returns-then-is_err
returns-then-is_err c =
    let a = c.args in
    let e = c.begin-w.ensures.answer ∙ begin_trial _ a.c.three a.old a.c.ero a.c.two (omega (arith, c.fit-k.ensures.counts.1, c.fit-k.ensures.cut)) in
    let refused = number_refused c.begin-w.result.answer (sym c.is_err.ensures.value ∙ c.if-is_err.true) in
    let h = λ (z : (begin_answer (fresh_buffer a.c.three) a.old a.c.ero a.c.two).verdict.number ≡ 0). refused (ap (λ (v : Written). v.verdict.number) e ∙ z) in
    record { writer = begin_keeps (fresh_buffer a.c.three) a.old a.c.ero a.c.two h; lent = sym (kept_old _ _ _ h); told = rw (← e) c.placed.ensures.told }

pub returns : goal.returns
returns c =
    let a = c.args in
    let m = a.memory.now in
    let new = a.c.three in
    let l = length-take-le new m c.requires.0 in
    let t = c.begin-w.ensures.answer ∙ begin_trial _ new a.old a.c.ero a.c.two (omega (arith, c.fit-k.ensures.counts.1, c.fit-k.ensures.cut)) in
    let z = sym (ap (λ (v : Written). v.verdict.number) t) ∙ number_accepted c.begin-w.result.answer (sym c.is_err.ensures.value ∙ c.if-is_err.false) in
    let e = c.fresh-b.ensures.answer ∙ ap (λ (x : ℕ). begin_answer (fresh_buffer x) a.old a.c.ero a.c.two) l in
    let b = c.fresh-b.ensures.buffer ∙ ap (λ (x : ℕ). begin_buffer (fresh_buffer x) a.old a.c.ero) l in
    record { writer = rw (← e); lent = take_at c.fresh-b.new.part (drop new m) new (c.fresh-b.auto.part ∙ l) ∙ (b ∙ sym (kept_new _ _ _ z)); told = rw (← e) c.placed-2.ensures.told }
