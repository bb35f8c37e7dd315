-- Cases and tests. Assumes nothing.
use Prim.Native.Nat.{ℕ, ◌<◌, ◌≤◌}
use native.Mathlib.Omega.{arith}
use mathlib.Core.Path.{◌≡◌, refl, sym, ap, ◌∙◌, subst}
use mathlib.Core.Bool.{Bool, true, false}
use mathlib.Core.List.{List}
use mathlib.Core.Logic.{◌⊎◌, inl, inr, ⊎_elim}
use lib.ListN.{get_or, set, length}
use lib.Seq.{get_or-set_same, get_or-set_other}
use lib.Dec.{eqb, leb}
use borrow.Author.Tests.{eqb-true, eqb-false, leb-true, leb-false}
use Rattle.std.proofs.Common.{Option, None, Some}
use Rattle.std.specs.Prelude.{IfSome}
use Rattle.std.specs.Option.{unwrap_or}

pub true≢false : true ≡ false → ⊥
true≢false p = let z : ◌≡◌ {A = ℕ} 0 1 = cc in omega arith

pub same? : (a b : ℕ) → (a ≡ b) ⊎ (a ≡ b → ⊥)
same? a b = go (eqb a b) refl
  where
    go : (t : Bool) → eqb a b ≡ t → (a ≡ b) ⊎ (a ≡ b → ⊥)
    go true e = inl (eqb-true a b e)
    go false e = inr (eqb-false a b e)

pub from? : (a b : ℕ) → (a ≤ b) ⊎ (b < a)
from? a b = go (leb a b) refl
  where
    go : (t : Bool) → leb a b ≡ t → (a ≤ b) ⊎ (b < a)
    go true e = inl (leb-true a b e)
    go false e = inr (leb-false a b e)

-- two tests that hold in the same cases are equal
pub test_is : (x y : Bool) → (x ≡ true → y ≡ true) → (y ≡ true → x ≡ true) → x ≡ y
test_is true true f g = refl
test_is true false f g = sym (f refl)
test_is false true f g = g refl
test_is false false f g = refl

-- what stands at j after a store at i
pub at_set : (P : ℕ → Type 0) (l : List ℕ) (i j a : ℕ) → i < length l → (j ≡ i → P a) → ((j ≡ i → ⊥) → P (get_or l j 0)) → P (get_or (set l i a) j 0)
at_set P l i j a h f g =
    ⊎_elim (λ e. subst P (sym (ap (λ (k : ℕ). get_or (set l i a) k 0) e ∙ get_or-set_same l i a 0 h)) (f e)) (λ d. subst P (sym (get_or-set_other l i j a 0 d)) (g d)) (same? j i)

-- what is found below a bound, from the number that has the bound for nothing
pub unwrap_back : (n : ℕ) (x y : Option ℕ) → IfSome x (λ i. i < n) → IfSome y (λ i. i < n) → unwrap_or x n ≡ unwrap_or y n → x ≡ y
unwrap_back n None None h k e = refl
unwrap_back n None (Some j) h k e = absurd (omega arith)
unwrap_back n (Some i) None h k e = absurd (omega arith)
unwrap_back n (Some i) (Some j) h k e = λ p. Some (e p)
