-- Halving the order: what is above w stays so behind it (`above_up`), so the part still looked at lies between numbers that are not above and numbers that are
-- (`Between`). Assumes nothing.
use Prim.Native.Nat.{ℕ, ◌<◌, ◌≤◌}
use native.Mathlib.Omega.{arith}
use mathlib.Core.Path.{◌≡◌, refl, sym, ap, ◌∙◌, subst}
use mathlib.Core.Bool.{Bool, true, false, ◌&&◌}
use mathlib.Core.List.{List}
use mathlib.Core.Logic.{⊎_elim}
use lib.ListN.{get_or, length}
use lib.Dec.{ltb, leb}
use borrow.Author.Tests.{lt-ltb, le-ltb, ltb-true, ltb-false, le-leb, leb-true}
use Rattle.board_record.specs.Sizes.{places}
use Rattle.board_record.specs.Search.{first_where}
use Rattle.board_record.specs.Order.{named, place_on, Rises}
use Rattle.std.specs.List.Sorted.{IsPartitionPoint, IsPartitionedBy}
use Rattle.std.proofs.lemmas.List.{get_or_default}
use Rattle.octets.proofs.Said.{both_true}
use Rattle.board_record.proofs.Logic.{true≢false, same?, from?}
use Rattle.board_record.proofs.Search.{IsFirst, nobody, this, first_is, first_found, first_hit, first_before}
use Rattle.board_order.specs.Above.{above_b, first_above}

-- a search that finds nothing below n ends at n
pub first_end : (t : ℕ → Bool) (n : ℕ) → ((j : ℕ) → j < n → t j ≡ false) → first_where t n ≡ n
first_end t n f = go (first_where t n) (first_is t n)
  where
    go : (i : ℕ) → IsFirst t n i → i ≡ n
    go i (nobody e g) = e
    go i (this u e g) = absurd (true≢false (sym e ∙ f i u))

pub first_most : (t : ℕ → Bool) (n : ℕ) → first_where t n ≤ n
first_most t n = go (first_where t n) (first_is t n)
  where
    go : (i : ℕ) → IsFirst t n i → i ≤ n
    go i (nobody e g) = omega arith
    go i (this u e g) = omega arith

module _ (vs order : List ℕ) (w : ℕ) where
  -- the test of one number
  pub above_none : (i p : ℕ) → p ≡ place_on order i → places ≤ p → true ≡ above_b vs order w i
  unfolding above_b
  above_none i p e l = rw (← e, le-ltb p 128 l)

  pub above_place : (i p : ℕ) → p ≡ place_on order i → p < places → ltb w (get_or vs p 0) ≡ above_b vs order w i
  unfolding above_b
  above_place i p e l = rw (← e, lt-ltb p 128 l)

  pub above_is : (i : ℕ) → above_b vs order w i ≡ true → place_on order i < places → w < get_or vs (place_on order i) 0
  unfolding above_b
  above_is i e l = ltb-true w (get_or vs (place_on order i) 0) (rw (lt-ltb (place_on order i) 128 l) at e)

  pub not_above : (i : ℕ) → above_b vs order w i ≡ false → (place_on order i < places) × (get_or vs (place_on order i) 0 ≤ w)
  unfolding above_b
  not_above i e = ⊎_elim (λ l. absurd (true≢false (rw (le-ltb (place_on order i) 128 l) at e)))
      (λ l. (l, ltb-false w (get_or vs (place_on order i) 0) (rw (lt-ltb (place_on order i) 128 l) at e))) (from? 128 (place_on order i))

  above_up : Rises vs order → (i j : ℕ) → i < j → j < places → above_b vs order w i ≡ true → above_b vs order w j ≡ true
  above_up r i j k l e = ⊎_elim (λ h. sym (above_none j (place_on order j) refl h)) some (from? places (place_on order j))
    where
      some : place_on order j < places → above_b vs order w j ≡ true
      some h = let g = r i j k l h in sym (above_place j (place_on order j) refl h) ∙ lt-ltb w (get_or vs (place_on order j) 0) (omega (arith, above_is i e g.0, g.1))

  -- the test of a number by itself, the other way round
  abbrev pub in_reach : ℕ → Bool
  in_reach n = ltb (named n) places && leb (get_or vs (named n) 0) w

  pub in_reach_place : (n p : ℕ) → (p ≡ named n) × (p < places) → leb (get_or vs p 0) w ≡ in_reach n
  in_reach_place n p e = rw (← e.0, lt-ltb p 128 e.1)

  pub in_reach_none : (n : ℕ) → places ≤ named n → false ≡ in_reach n
  in_reach_none n l = rw (le-ltb (named n) 128 l)

  in_reach_above : (i : ℕ) → in_reach (get_or order i 0) ≡ true → above_b vs order w i ≡ false
  unfolding above_b
  in_reach_above i e =
      let t = both_true (ltb (place_on order i) places) (leb (get_or vs (place_on order i) 0) w) e in
      rw (t.0, le-ltb w (get_or vs (place_on order i) 0) (leb-true (get_or vs (place_on order i) 0) w t.1))

  above_in_reach : (i : ℕ) → above_b vs order w i ≡ false → in_reach (get_or order i 0) ≡ true
  above_in_reach i e = let t = not_above i e in rw (lt-ltb (place_on order i) places t.0) (le-leb (get_or vs (place_on order i) 0) w t.1)

  -- what is in reach stands before what is not
  pub in_reach_first : Rises vs order → length order ≡ places → IsPartitionedBy in_reach order
  in_reach_first r long i j d h l e = subst (λ (n : ℕ). in_reach n ≡ true) (get_or_default order i 0 d (omega arith)) (above_in_reach i (go (above_b vs order w i) refl))
    where
      e0 : above_b vs order w j ≡ false
      e0 = in_reach_above j (subst (λ (n : ℕ). in_reach n ≡ true) (get_or_default order j d 0 l) e)

      go : (y : Bool) → above_b vs order w i ≡ y → above_b vs order w i ≡ false
      go true q = ⊎_elim (λ z. ap (above_b vs order w) z ∙ e0) (λ z. absurd (true≢false (sym (above_up r i j (omega (arith, z)) (omega arith) q) ∙ e0))) (same? i j)
      go false q = q

  pub partition_is : (n : ℕ) → length order ≡ places → n ≤ length order → IsPartitionPoint (λ y. in_reach y ≡ true) (λ y. in_reach y ≡ false) order n → n ≡ first_above vs order w
  unfolding first_above
  partition_is n long l x =
      ⊎_elim (λ h. let e : n ≡ 128 = omega arith in e ∙ sym (first_end (above_b vs order w) 128 (λ j k. before j (omega arith))))
      (λ h. first_found (above_b vs order w) 128 n h (first_end (above_b vs order w) n before) (go h (above_b vs order w n) refl)) (from? 128 n)
    where
      before : (j : ℕ) → j < n → above_b vs order w j ≡ false
      before j k = in_reach_above j (x.0 j 0 (omega arith) k)

      go : n < 128 → (y : Bool) → above_b vs order w n ≡ y → above_b vs order w n ≡ true
      go h true q = q
      go h false q = absurd (true≢false (sym (above_in_reach n q) ∙ x.1 n 0 (omega arith) (omega arith)))

  -- and what the search names
  pub first_above_lem : first_above vs order w < places → above_b vs order w (first_above vs order w) ≡ true
  unfolding first_above
  first_above_lem l = first_hit (above_b vs order w) 128 l

  pub before_first : (j : ℕ) → j < first_above vs order w → j < places → above_b vs order w j ≡ false
  unfolding first_above
  before_first j l m = first_before (above_b vs order w) 128 j m l

  pub above_most : first_above vs order w ≤ places
  unfolding first_above
  above_most = first_most (above_b vs order w) 128

  pub from_first : Rises vs order → (j : ℕ) → first_above vs order w ≤ j → j < places → above_b vs order w j ≡ true
  from_first r j h l =
      let g = first_above_lem (omega arith) in
      ⊎_elim (λ z. ap (above_b vs order w) (sym z) ∙ g) (λ d. above_up r (first_above vs order w) j (omega (arith, d)) l g) (same? (first_above vs order w) j)
