-- Cases of tests and of optional paths. Assumes nothing.
use Prim.Native.Nat.{ℕ}
use native.Mathlib.Omega.{arith}
use mathlib.Core.Path.{◌≡◌, refl}
use mathlib.Core.Bool.{Bool, true, false, ◌||◌}
use mathlib.Core.Option.{Option, none, some}
use mathlib.Core.Logic.{◌⊎◌, inl, inr}
use Rattle.board_record.proofs.Logic.{true≢false}
use Rattle.follow.specs.Story.{HeldPath}
use Rattle.follow.specs.Floor.{is_some}

pub some≢none : (x : HeldPath) → some x ≡ none → ⊥
some≢none x q = let z : ◌≡◌ {A = ℕ} 0 1 = cc in omega arith

pub some_one : (x y : HeldPath) → some x ≡ some y → x ≡ y
some_one x y q = cc

pub none_of : (o : Option HeldPath) → is_some o ≡ false → o ≡ none
none_of none e = refl
none_of (some x) e = absurd (true≢false e)

pub or_cases : (x y : Bool) → x || y ≡ true → (x ≡ true) ⊎ (y ≡ true)
or_cases true y e = inl refl
or_cases false y e = inr e

pub not_true_is_false : (x : Bool) → (x ≡ true → ⊥) → x ≡ false
not_true_is_false true f = absurd (f refl)
not_true_is_false false f = refl
