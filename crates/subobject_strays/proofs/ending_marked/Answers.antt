use native.Mathlib.Omega.{arith}
use mathlib.Core.Path.{sym, ◌∙◌}
use Prim.Native.Nat.{◌+◌}
use native.Mathlib.Nat.{le_refl}
use Rattle.subobject_strays.proofs.Laws.{structure_room}
use Rattle.subobject_strays.specs.Four.{ending_marked}
use Rattle.subobject_strays.proofs.ending_marked.Goals as goal

pub overflow_sub-at : goal.overflow_sub-at
overflow_sub-at c =
    let h = c.args.h in
    let q = structure_room c.args.form h c.args.at (c.args.at + h.size)
    (sym c.structured.ensures.structured ∙ c.if-structured.true) (rw c.requires.0 (le_refl _)) in
    omega (arith, q)

pub four-requires : goal.four-requires
four-requires c =
    let h = c.args.h in
    let q = structure_room c.args.form h c.args.at (c.args.at + h.size)
    (sym c.structured.ensures.structured ∙ c.if-structured.true) (rw c.requires.0 (le_refl _)) in
    omega (arith, q, c.requires.1)

pub returns-then-structured : goal.returns-then-structured
unfolding ending_marked
returns-then-structured c = record { marked = rw (sym c.structured.ensures.structured ∙ c.if-structured.true, c.four.ensures.four) }

pub returns : goal.returns
unfolding ending_marked
returns c = record { marked = rw (sym c.structured.ensures.structured ∙ c.if-structured.false) }
