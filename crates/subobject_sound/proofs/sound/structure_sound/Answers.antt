use mathlib.Core.Path.{refl}
use native.Mathlib.Omega.{arith}
use Rattle.subobject_sound.proofs.Laws.{structure_last, eleven_kept, eleven_none}
use Rattle.subobject_sound.proofs.sound.structure_sound.Goals as goal

pub overflow_sub-at : goal.overflow_sub-at
overflow_sub-at c = omega (arith, (structure_last _ _ c.args.at _ c.structured.ensures.structured c.if-structured.true c.requires.0).0)

pub sum_four_in-requires : goal.sum_four_in-requires
sum_four_in-requires c =
    let last = structure_last _ _ c.args.at _ c.structured.ensures.structured c.if-structured.true c.requires.0 in
    omega (arith, last.0, c.requires.1)

pub returns-then-structured : goal.returns-then-structured
returns-then-structured c = let last = structure_last _ _ c.args.at _ c.structured.ensures.structured c.if-structured.true c.requires.0 in
    record { sound = λ e. eleven_kept _ _ _ _ _ _ _ c.sum_four_in.ensures.sum.0 last.1 refl e }

pub returns : goal.returns
returns c = record { sound = λ e. eleven_none _ _ _ c.structured.ensures.structured c.if-structured.false }
