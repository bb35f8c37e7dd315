-- Laws of the same octets: they are equal lists, and octets are compared from a place on (`same_miss`, `same_hit`, `same_end`). Assumes nothing.
use Prim.Native.Nat.{ℕ, ◌+◌, ◌≤◌, ◌<◌}
use mathlib.Core.Path.{◌≡◌, refl, ap}
use mathlib.Core.List.{List, [], ◌∷◌}
use mathlib.Core.Bool.{Bool, true, false, false≢true}
use lib.ListN.{length, get_or, drop, drop_of_length-le}
use lib.Seq.{drop-cons}
use lib.Dec.{eqb}
use native.Mathlib.Numerals.{add-one}
use borrow.Author.Tests.{eq-eqb, ne_eqb, eqb-true}
use Rattle.octets.proofs.Said.{both_true}
use Rattle.same_octets.specs.Same.{same_octets}

pub same_refl : (x : List ℕ) → same_octets x x ≡ true
unfolding same_octets
same_refl [] = refl
same_refl (a ∷ x) = rw (eq-eqb a a refl) (same_refl x)

pub same_is : (x y : List ℕ) → same_octets x y ≡ true → x ≡ y
unfolding same_octets
same_is [] [] e = refl
same_is [] (b ∷ y) e = absurd (false≢true e)
same_is (a ∷ x) [] e = absurd (false≢true e)
same_is (a ∷ x) (b ∷ y) e = let h = both_true (eqb a b) (same_octets x y) e in λ i. eqb-true a b h.0 i ∷ same_is x y h.1 i

pub same_lengths : (x y : List ℕ) → (length x ≡ length y → ⊥) → same_octets x y ≡ false
same_lengths x y d = go (same_octets x y) refl
  where
    go : (b : Bool) → same_octets x y ≡ b → b ≡ false
    go true e = absurd (d (ap length (same_is x y e)))
    go false e = refl

module _ (x y : List ℕ) (i : ℕ) where
  pub same_miss : i < length x → i < length y → (get_or x i 0 ≡ get_or y i 0 → ⊥) → same_octets (drop i x) (drop i y) ≡ false
  unfolding same_octets
  same_miss h k d = rw (drop-cons x i 0 h, drop-cons y i 0 k, ne_eqb (get_or x i 0) (get_or y i 0) d)

  pub same_hit : i < length x → i < length y → get_or x i 0 ≡ get_or y i 0 → same_octets (drop i x) (drop i y) ≡ same_octets (drop (i + 1) x) (drop (i + 1) y)
  unfolding same_octets
  same_hit h k e = rw (add-one, drop-cons x i 0 h, drop-cons y i 0 k, eq-eqb (get_or x i 0) (get_or y i 0) e)

  pub same_end : length x ≤ i → length y ≤ i → same_octets (drop i x) (drop i y) ≡ true
  unfolding same_octets
  same_end h k = rw (drop_of_length-le x h, drop_of_length-le y k)
