-- Two answers that both equal one definition of the inputs are equal: what makes every contract of the
-- form `r ≡ definition` leave a call no choice.
use Prim.Native.Nat.{ℕ}
use mathlib.Core.Path.{◌≡◌, sym, ◌∙◌}
use Rattle.answers.specs.declared.verdict.Verdict.{Verdict}
use Rattle.answers.specs.Verdicts.{refused_by, carrying_both, accepted_with}

pub determined : {A : Type 0} {x y z : A} → x ≡ z → y ≡ z → x ≡ y
determined p q = p ∙ sym q

pub refused_determined : (number place : ℕ) {x y : Verdict} → x ≡ refused_by number place → y ≡ refused_by number place → x ≡ y
refused_determined number place = determined

pub accepted_determined : (count : ℕ) {x y : Verdict} → x ≡ accepted_with count → y ≡ accepted_with count → x ≡ y
accepted_determined count = determined

pub carrying_determined : (count stray : ℕ) {x y : Verdict} → x ≡ carrying_both count stray → y ≡ carrying_both count stray → x ≡ y
carrying_determined count stray = determined
