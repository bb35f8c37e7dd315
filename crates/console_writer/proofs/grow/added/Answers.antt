use Rattle.console_writer.proofs.Laws.{lent_back}
use Rattle.console_state.proofs.Laws.{take_fit}
use Rattle.writer.specs.Writing.{add_answer, add_buffer}
use Rattle.subobject.specs.declared.segment.Segment.{Segment}
use lib.ListN.{take}
use Prim.Native.Nat.{ℕ}
use mathlib.Core.List.{List}
use mathlib.Core.Path.{◌∙◌, ap, sym}
use Rattle.console_writer.proofs.grow.added.Goals as goal

pub returns : goal.returns
returns c =
    let a = c.args in
    let s = take_fit a.size a.memory.now c.fit-n.ensures.cut in
    let g = c.segment_in-g.ensures.segment in
    let e = c.add-w.ensures.answer
    ∙ (ap (λ (x : List ℕ). add_answer x a.old c.segment_in-g.result) s
    ∙ ap (λ (x : Segment). add_answer (take a.size a.memory.now) a.old x) g) in
    let b = c.add-w.ensures.buffer
    ∙ (ap (λ (x : List ℕ). add_buffer x a.old c.segment_in-g.result) s
    ∙ ap (λ (x : Segment). add_buffer (take a.size a.memory.now) a.old x) g) in
    record {
      writer = rw (← e);
      lent = lent_back a.size a.memory.now c.add-w.new.buf c.fit-n.ensures.cut (c.add-w.auto.buf ∙ sym c.fit-n.ensures.counts.1)
          ∙ b;
      told = rw (← e) c.placed.ensures.told;
    }
