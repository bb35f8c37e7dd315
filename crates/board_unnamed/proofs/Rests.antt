-- Places in which there is nothing, and their three counts as the code tests them. Assumes nothing.
use Prim.Native.Nat.{ℕ, ◌≤◌, ◌<◌}
use native.Mathlib.Omega.{arith}
use mathlib.Core.Path.{◌≡◌, refl, sym, ◌∙◌}
use mathlib.Core.Bool.{Bool, true, false, cond, ◌&&◌}
use mathlib.Core.List.{List}
use lib.Dec.{eqb}
use lib.ListN.{get_or}
use borrow.Author.Tests.{eq-eqb, ne_eqb}
use Rattle.board_record.specs.Sizes.{places}
use Rattle.board_extent.specs.Extent.{EmptyFrom}
use Rattle.board_unnamed.specs.Rest.{empty_b}

-- ---- where there is nothing but 0
pub version_none : (vs : List ℕ) (m : ℕ) → EmptyFrom vs m → (j : ℕ) → m ≤ j → j < places → eqb (get_or vs j 0) 0 ≡ true
version_none vs m a j h l = rw (a j h l) refl

pub place_none : (ks ls fs : List ℕ) (m : ℕ) → EmptyFrom ks m → EmptyFrom ls m → EmptyFrom fs m → (j : ℕ) → m ≤ j → j < places → empty_b ks ls fs j ≡ true
unfolding empty_b
place_none ks ls fs m a b d j h l = rw (a j h l, b j h l, d j h l) refl

-- ---- a test as a number
pub byte_is : (b : Bool) → mir.Val.bool_byte b ≡ cond b 1 0
byte_is true = refl
byte_is false = refl

pub byte_most : (b : Bool) → mir.Val.bool_byte b ≤ 1
byte_most true = omega arith
byte_most false = omega arith

-- ---- three counts as the code tests them
module _ (a b d m : ℕ) where
  pub first_differs : (x : ℕ) → x ≡ a → (x ≡ m → ⊥) → false ≡ (eqb a m && eqb b m && eqb d m)
  first_differs x q n = rw (ne_eqb a m (λ z. n (q ∙ z)))

  pub second_differs : (x y : ℕ) → x ≡ a → x ≡ m → y ≡ b → (y ≡ m → ⊥) → false ≡ (eqb a m && eqb b m && eqb d m)
  second_differs x y q e p n = rw (eq-eqb a m (sym q ∙ e), ne_eqb b m (λ z. n (p ∙ z)))

  pub both_same : (x y z : ℕ) → x ≡ a → x ≡ m → y ≡ b → y ≡ m → z ≡ d → eqb z m ≡ (eqb a m && eqb b m && eqb d m)
  both_same x y z q e p f w = rw (eq-eqb a m (sym q ∙ e), eq-eqb b m (sym p ∙ f), w)
