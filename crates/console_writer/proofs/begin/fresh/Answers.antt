use Rattle.writer_begin_finish.specs.Ends.{begin_answer, begin_buffer}
use Prim.Native.Nat.{ℕ}
use mathlib.Core.List.{List}
use mathlib.Core.Path.{◌∙◌, ap}
use Rattle.console_writer.proofs.begin.fresh.Goals as goal

pub returns : goal.returns
returns c =
    let a = c.args in
    let f = c.fill.ensures.filled in
    record { answer = c.begin.ensures.answer ∙ ap (λ (x : List ℕ). begin_answer x a.old a.ero a.pst) f; buffer = c.begin.ensures.buffer ∙ ap (λ (x : List ℕ). begin_buffer x a.old a.ero) f }
