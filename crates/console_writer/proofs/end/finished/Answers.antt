use Rattle.console_writer.proofs.Laws.{lent_back}
use Rattle.console_state.proofs.Laws.{take_fit}
use Rattle.writer_begin_finish.specs.Ends.{finish_buffer}
use Prim.Native.Nat.{ℕ}
use mathlib.Core.List.{List}
use mathlib.Core.Path.{◌∙◌, ap, sym}
use Rattle.console_writer.proofs.end.finished.Goals as goal

pub returns : goal.returns
returns c =
    let r = c.close-c in
    let a = c.args in
    let s = take_fit a.size a.memory.now c.fit-n.ensures.cut in
    record {
      writer = rw (← s) r.ensures.writer;
      lent = lent_back a.size a.memory.now r.new.part c.fit-n.ensures.cut (r.auto.part ∙ sym c.fit-n.ensures.counts.1)
          ∙ (r.ensures.buffer ∙ ap (λ (x : List ℕ). finish_buffer x a.old) s);
      told = rw (← s) r.ensures.told;
    }
