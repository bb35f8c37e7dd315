-- Laws of the two positions: which can be used, what a position is worth; any two answers that fit are equal.
use Prim.Native.Nat.{ℕ}
use mathlib.Core.Path.{◌≡◌, refl}
use mathlib.Core.Bool.{Bool, true, false, ◌&&◌}
use borrow.Author.Tests.{eq-eqb}
use lib.Dec.{leb}
use Rattle.answers.proofs.Determined.{determined}
use Rattle.flag_positions.specs.declared.Positions.{Positions}
use Rattle.flag_positions.specs.Positions.{usable_positions, first_two, flag_at}

-- The positions of the checking program.
pub usable_0_1 : usable_positions first_two ≡ true
unfolding usable_positions
usable_0_1 = refl

-- Equal positions are of no use.
pub equal_unusable : (p : ℕ) → usable_positions (record { a = p; r = p }) ≡ false
unfolding usable_positions
equal_unusable p = rw (eq-eqb p p refl) (go (leb p 13))
  where
    go : (b : Bool) → (b && (b && false)) ≡ false
    go true = refl
    go false = refl

-- Position 0 is the highest of the 16 flags, 13 the third from the low end.
pub highest : (flag_at 32768 0 ≡ true) × (flag_at 1 0 ≡ false) × (flag_at 4 13 ≡ true)
unfolding flag_at
highest = (refl, refl, refl)

-- Any two answers that fit the contract of a call are equal.
pub first_two_determined : {x y : Positions} → x ≡ first_two → y ≡ first_two → x ≡ y
first_two_determined = determined

pub usable_determined : (p : Positions) {x y : Bool} → x ≡ usable_positions p → y ≡ usable_positions p → x ≡ y
usable_determined p = determined

pub flag_determined : (flags p : ℕ) {x y : Bool} → x ≡ flag_at flags p → y ≡ flag_at flags p → x ≡ y
flag_determined flags p = determined
