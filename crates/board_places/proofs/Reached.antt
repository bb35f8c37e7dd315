-- What holds of a place where there is nothing but 0, and a loop over tests. Assumes nothing.
use Prim.Native.Nat.{ℕ, ◌+◌, ◌≤◌, ◌<◌}
use native.Mathlib.Numerals.{add-one}
use native.Mathlib.Omega.{arith}
use mathlib.Core.Path.{◌≡◌, refl}
use mathlib.Core.Bool.{Bool, true, ◌&&◌}
use mathlib.Core.List.{List}
use lib.Dec.{leb}
use lib.ListN.{get_or}
use Rattle.board_record.specs.Sizes.{places, key_most}
use Rattle.board_record.specs.Proper.{all_below}
use Rattle.board_extent.specs.Extent.{EmptyFrom}
use Rattle.board_fits.specs.Fits.{body_b}

pub body_none : (ls fs : List ℕ) (m : ℕ) → EmptyFrom ls m → EmptyFrom fs m → (j : ℕ) → m ≤ j → j < places → body_b (get_or ls j 0) (get_or fs j 0) ≡ true
unfolding body_b
body_none ls fs m a b j h l = rw (a j h l, b j h l) refl

pub key_none : (ks : List ℕ) (m : ℕ) → EmptyFrom ks m → (j : ℕ) → m ≤ j → j < places → leb (get_or ks j 0) key_most ≡ true
key_none ks m a j h l = rw (a j h l) refl

-- ---- a loop that joins what tests say
pub tests_none : (t : ℕ → Bool) → true ≡ all_below t 0
unfolding all_below
tests_none t = refl

pub tests_more : (t : ℕ → Bool) (i : ℕ) (all r : Bool) → all ≡ all_below t i → r ≡ t i → (all && r) ≡ all_below t (i + 1)
unfolding all_below
tests_more t i all r e q = rw (add-one i, all_below, e, q) refl

pub tests_end : (t : ℕ → Bool) (i m : ℕ) (all : Bool) → i ≤ m → m ≤ i → all ≡ all_below t i → all ≡ all_below t m
tests_end t i m all h l e = let q : i ≡ m = omega arith in rw q at e
