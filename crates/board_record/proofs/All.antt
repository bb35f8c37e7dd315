-- Laws of `all_below`, and of distinct numbers. Assumes nothing.
use Prim.Native.Nat.{ℕ, zero, suc, ◌+◌, ◌<◌}
use native.Mathlib.Numerals.{add-one}
use native.Mathlib.Decide.{le_ind}
use native.Mathlib.Omega.{arith}
use mathlib.Core.Path.{◌≡◌, refl, sym, ◌∙◌}
use mathlib.Core.Bool.{Bool, true, false, not, ◌||◌}
use mathlib.Core.List.{List}
use mathlib.Core.Logic.{◌⊎◌, ⊎_elim}
use lib.ListN.{get_or}
use lib.Dec.{eqb}
use borrow.Author.Tests.{ne_eqb, eqb-false, not-true}
use borrow.Author.Count.{below_more}
use Rattle.board_record.specs.Sizes.{places}
use Rattle.board_record.specs.Proper.{all_below, fresh_b, new_b, distinct_b}
use Rattle.octets.proofs.Said.{both_true, and_false}
use Rattle.board_record.proofs.Logic.{same?, from?}

-- ---- every number below n passes
pub all_none : (t : ℕ → Bool) → all_below t 0 ≡ true
unfolding all_below
all_none t = refl

pub all_more : (t : ℕ → Bool) (i : ℕ) → all_below t i ≡ true → t i ≡ true → all_below t (i + 1) ≡ true
unfolding all_below
all_more t i e f = rw (add-one, all_below, e, f)

pub all_fails : (t : ℕ → Bool) (n i : ℕ) → i < n → t i ≡ false → all_below t n ≡ false
unfolding all_below
all_fails t n i l e = le_ind (λ m. all_below t m ≡ false) (rw (all_below, e) (and_false (all_below t i))) (λ m h q. rw (all_below, q)) n l

pub all_of : (t : ℕ → Bool) (n : ℕ) → ((i : ℕ) → i < n → t i ≡ true) → all_below t n ≡ true
unfolding all_below
all_of t zero h = refl
all_of t (suc n) h = rw (all_of t n (λ i l. h i (omega arith)), h n (omega arith))

pub all_at : (t : ℕ → Bool) (n : ℕ) → all_below t n ≡ true → (i : ℕ) → i < n → t i ≡ true
unfolding all_below
all_at t zero e i l = absurd (omega arith)
all_at t (suc n) e i l = below_more (λ k. t k ≡ true) n (all_at t n (both_true (all_below t n) (t n) e).0) (both_true (all_below t n) (t n) e).1 i (omega arith)

-- ---- distinct, as a proposition, both ways
distinct_apart : (xs : List ℕ) → distinct_b xs ≡ true → (i j : ℕ) → j < i → i < places → (get_or xs i 0 ≡ 0 → ⊥) → get_or xs j 0 ≡ get_or xs i 0 → ⊥
unfolding distinct_b new_b fresh_b
distinct_apart xs e i j m l u q =
    let h : all_below (λ k. not (eqb (get_or xs k 0) (get_or xs i 0))) i ≡ true = rw (new_b, ne_eqb (get_or xs i 0) 0 u) at (all_at (new_b xs) 128 e i l) in
    eqb-false (get_or xs j 0) (get_or xs i 0) (not-true _ (all_at (λ k. not (eqb (get_or xs k 0) (get_or xs i 0))) i h j m)) q

-- two places with one number are one place
pub distinct_one : (xs : List ℕ) → distinct_b xs ≡ true → (i j : ℕ) → i < places → j < places → (get_or xs i 0 ≡ 0 → ⊥) → get_or xs i 0 ≡ get_or xs j 0 → i ≡ j
distinct_one xs e i j l m u q =
    ⊎_elim (λ y. y)
    (λ d. absurd
    (⊎_elim (λ h. distinct_apart xs e j i (omega (arith, d)) m (λ z. u (q ∙ z)) q)
    (λ h. distinct_apart xs e i j h l u (sym q)) (from? i j)))
    (same? i j)

pub one_distinct : (xs : List ℕ) → ((i j : ℕ) → i < places → j < places → (get_or xs i 0 ≡ 0 → ⊥) → get_or xs i 0 ≡ get_or xs j 0 → i ≡ j) → distinct_b xs ≡ true
unfolding distinct_b new_b fresh_b
one_distinct xs f = all_of (new_b xs) 128 (λ i l. go i l (eqb (get_or xs i 0) 0) refl)
  where
    apart : (i j : ℕ) → i < 128 → j < i → (get_or xs i 0 ≡ 0 → ⊥) → get_or xs j 0 ≡ get_or xs i 0 → ⊥
    apart i j l m u q = omega (arith, f i j l (omega arith) u (sym q))

    go : (i : ℕ) → i < 128 → (t : Bool) → eqb (get_or xs i 0) 0 ≡ t → t || all_below (λ k. not (eqb (get_or xs k 0) (get_or xs i 0))) i ≡ true
    go i l true e = refl
    go i l false e = all_of (λ k. not (eqb (get_or xs k 0) (get_or xs i 0))) i (λ j m. rw (ne_eqb (get_or xs j 0) (get_or xs i 0) (apart i j l m (eqb-false (get_or xs i 0) 0 e))))
