-- The numbers of an order so far name places whose versions rise from above 0. Assumes nothing.
use Prim.Native.Nat.{ℕ, suc, ◌+◌, ◌<◌, ◌≤◌, max}
use native.Mathlib.Omega.{arith}
use mathlib.Core.Path.{◌≡◌, refl, sym, ap, ◌∙◌}
use mathlib.Core.Bool.{Bool, true, false, not, ◌&&◌, ◌||◌}
use mathlib.Core.List.{List}
use mathlib.Core.Logic.{◌⊎◌, inl, inr, ⊎_elim}
use lib.ListN.{get_or}
use lib.Dec.{eqb, ltb}
use borrow.Author.Tests.{eqb-true, eqb-false, ltb-true, ltb-false}
use Rattle.board_record.specs.Sizes.{places}
use Rattle.board_record.specs.Order.{place_on}
use Rattle.board_record.proofs.Logic.{true≢false, same?, from?}
use Rattle.board_order_numbers.specs.Numbers.{late_b}

-- the first i numbers of an order are places, their versions rise, and the last of these is `last`
pub record Risen (vs order : List ℕ) (i last : ℕ) : Type 0 where
  pub low : (j : ℕ) → j < i → place_on order j < places
  pub above : (j : ℕ) → j < i → 0 < get_or vs (place_on order j) 0
  pub most : (j : ℕ) → j < i → get_or vs (place_on order j) 0 ≤ last
  pub up : (j k : ℕ) → j < k → k < i → get_or vs (place_on order j) 0 < get_or vs (place_on order k) 0
  pub first : i ≡ 0 → last ≡ 0
  pub is : (j : ℕ) → i ≡ suc j → last ≡ get_or vs (place_on order j) 0

pub risen_none : (vs order : List ℕ) → Risen vs order 0 0
risen_none vs order =
    record {
      low = λ j l. absurd (omega arith);
      above = λ j l. absurd (omega arith);
      most = λ j l. absurd (omega arith);
      up = λ j k m l. absurd (omega arith);
      first = λ e. refl;
      is = λ j e. absurd (omega arith);
    }

pub risen_more : (vs order : List ℕ) (i last p v : ℕ) → Risen vs order i last → p ≡ place_on order i → p < places → v ≡ get_or vs p 0 → last < v
    → Risen vs order (i + 1) v
risen_more vs order i last p v r e l f h =
    let q : v ≡ get_or vs (place_on order i) 0 = f ∙ ap (λ (x : ℕ). get_or vs x 0) e in
    record {
      low = λ j k. ⊎_elim (λ z. omega (arith, ap (λ (x : ℕ). place_on order x) z)) (λ d. r.low j (omega (arith, d))) (same? j i);
      above = λ j k. ⊎_elim (λ z. omega (arith, ap (λ (x : ℕ). get_or vs (place_on order x) 0) z)) (λ d. r.above j (omega (arith, d))) (same? j i);
      most = λ j k. ⊎_elim (λ z. omega (arith, ap (λ (x : ℕ). get_or vs (place_on order x) 0) z)) (λ d. omega (arith, r.most j (omega (arith, d)))) (same? j i);
      up = λ j k m n.
          ⊎_elim (λ z. omega (arith, ap (λ (x : ℕ). get_or vs (place_on order x) 0) z, r.most j (omega arith))) (λ d. r.up j k m (omega (arith, d))) (same? k i);
      first = λ z. absurd (omega arith);
      is = λ j z. let y : i ≡ j = omega arith in q ∙ ap (λ (x : ℕ). get_or vs (place_on order x) 0) y;
    }

-- they are different places
pub risen_once : (vs order : List ℕ) (n last : ℕ) → Risen vs order n last → (i j : ℕ) → i < n → j < n → place_on order i ≡ place_on order j → i ≡ j
risen_once vs order n last r i j l m e =
    ⊎_elim (λ k. ⊎_elim (λ y. y) (λ d. absurd (omega (arith, r.up i j (omega (arith, d)) m, ap (λ (p : ℕ). get_or vs p 0) e))) (same? i j))
    (λ k. absurd (omega (arith, r.up j i k l, ap (λ (p : ℕ). get_or vs p 0) e))) (from? i j)

-- the larger of the last version and the floor: a version above it is above both, and one that is not, but is above the last, is at most the floor
pub record Bounded (floor last bound : ℕ) : Type 0 where
  pub last_in : last ≤ bound
  pub floor_in : floor ≤ bound
  pub is : (bound ≡ last) ⊎ (bound ≡ floor)

pub bounded_none : (floor : ℕ) → Bounded floor 0 floor
bounded_none floor = record { last_in = omega arith; floor_in = omega arith; is = inr refl }

pub bounded_more : (floor last bound v r : ℕ) → Bounded floor last bound → last < v → r ≡ max bound v → Bounded floor v r
bounded_more floor last bound v r k l e = record { last_in = omega arith; floor_in = omega (arith, k.floor_in); is = ⊎_elim (λ h. older h k.is) (λ h. inl (omega arith)) (from? v bound) }
  where
    older : v ≤ bound → (bound ≡ last) ⊎ (bound ≡ floor) → (r ≡ v) ⊎ (r ≡ floor)
    older h (inl z) = absurd (omega arith)
    older h (inr z) = inr (omega arith)

-- a version that may not come behind the last one, and one that may
pub not_late : (floor last bound v n : ℕ) → Bounded floor last bound → late_b last bound v n ≡ false → (v ≤ last) ⊎ ((v ≤ floor) × (n ≡ 0))
unfolding late_b
not_late floor last bound v n k t = go (ltb last v) refl (eqb n 0) refl (ltb bound v) refl t
  where
    go : (x : Bool) → ltb last v ≡ x → (y : Bool) → eqb n 0 ≡ y → (z : Bool) → ltb bound v ≡ z → (x && (not y || z)) ≡ false → (v ≤ last) ⊎ ((v ≤ floor) × (n ≡ 0))
    go false e y f z g h = inl (omega (arith, ltb-false last v e))
    go true e true f false g h =
        let l = ltb-true last v e in
        let m = ltb-false bound v g in
        inr (⊎_elim (λ w. absurd (omega (arith, w, l, m))) (λ w. omega (arith, w, m)) k.is, eqb-true n 0 f)
    go true e true f true g h = absurd (true≢false h)
    go true e false f z g h = absurd (true≢false h)

pub is_late : (floor last bound v n : ℕ) → Bounded floor last bound → late_b last bound v n ≡ true → (last < v) × (n ≡ 0 → floor < v)
unfolding late_b
is_late floor last bound v n k t = go (ltb last v) refl (eqb n 0) refl (ltb bound v) refl t
  where
    go : (x : Bool) → ltb last v ≡ x → (y : Bool) → eqb n 0 ≡ y → (z : Bool) → ltb bound v ≡ z → (x && (not y || z)) ≡ true → (last < v) × (n ≡ 0 → floor < v)
    go false e y f z g h = absurd (true≢false (sym h))
    go true e true f false g h = absurd (true≢false (sym h))
    go true e true f true g h = (ltb-true last v e, λ q. omega (arith, ltb-true bound v g, k.floor_in))
    go true e false f z g h = (ltb-true last v e, λ q. absurd (eqb-false n 0 f q))
