-- Laws of largest values and of looks over numbers below n. Assumes nothing.
use Prim.Native.Nat.{ℕ, zero, suc, ◌+◌, ◌<◌, ◌≤◌, max}
use native.Mathlib.Numerals.{add-one}
use native.Mathlib.Omega.{arith}
use mathlib.Core.Path.{◌≡◌, refl, sym, ap, ◌∙◌}
use mathlib.Core.Bool.{Bool, true, false, ◌||◌}
use mathlib.Core.Logic.{◌⊎◌, inl, inr, ⊎_elim}
use Rattle.octets.proofs.Said.{or_true}
use Rattle.board_record.specs.Lists.{max_below, any_below}
use Rattle.board_record.specs.Proper.{all_below}
use Rattle.board_record.proofs.Logic.{true≢false, same?, from?}

-- ---- the largest value
pub max_most : (f : ℕ → ℕ) (n j : ℕ) → j < n → f j ≤ max_below f n
unfolding max_below
max_most f zero j l = absurd (omega arith)
max_most f (suc n) j l = ⊎_elim (λ e. omega (arith, ap f e)) (λ d. omega (arith, max_most f n j (omega (arith, d)))) (same? j n)

pub max_is : (f : ℕ → ℕ) (n : ℕ) → (max_below f n ≡ 0) ⊎ ((j : ℕ) × (j < n) × (f j ≡ max_below f n))
unfolding max_below
max_is f zero = inl refl
max_is f (suc n) = ⊎_elim (λ h. inr (n, omega arith, omega arith)) (λ h. go h (max_is f n)) (from? (max_below f n) (f n))
  where
    go : f n < max_below f n → (max_below f n ≡ 0) ⊎ ((j : ℕ) × (j < n) × (f j ≡ max_below f n))
        → (max (max_below f n) (f n) ≡ 0) ⊎ ((j : ℕ) × (j < suc n) × (f j ≡ max (max_below f n) (f n)))
    go h (inl e) = absurd (omega arith)
    go h (inr y) = inr (y.0, omega (arith, y.1), omega (arith, y.2))

-- ---- a look
pub any_none : (t : ℕ → Bool) → any_below t 0 ≡ false
unfolding any_below
any_none t = refl

pub any_more : (t : ℕ → Bool) (i : ℕ) → any_below t i ≡ false → t i ≡ false → any_below t (i + 1) ≡ false
unfolding any_below
any_more t i e f = rw (add-one, any_below, e, f)

pub any_not : (t : ℕ → Bool) (n : ℕ) → ((j : ℕ) → j < n → t j ≡ false) → any_below t n ≡ false
unfolding any_below
any_not t zero h = refl
any_not t (suc n) h = rw (any_not t n (λ j l. h j (omega arith)), h n (omega arith))

pub any_of : (t : ℕ → Bool) (n i : ℕ) → i < n → t i ≡ true → any_below t n ≡ true
unfolding any_below
any_of t zero i l e = absurd (omega arith)
any_of t (suc n) i l e = ⊎_elim (λ z. let q : t n ≡ true = ap t (sym z) ∙ e in rw q (or_true (any_below t n))) (λ d. rw (any_of t n i (omega (arith, d)) e)) (same? i n)

pub any_at : (t : ℕ → Bool) (n : ℕ) → any_below t n ≡ false → (j : ℕ) → j < n → t j ≡ false
any_at t n e j l = go (t j) refl
  where
    go : (x : Bool) → t j ≡ x → t j ≡ false
    go true q = absurd (true≢false (sym (any_of t n j l q) ∙ e))
    go false q = q

pub any_where : (t : ℕ → Bool) (n : ℕ) → any_below t n ≡ true → (i : ℕ) × (i < n) × (t i ≡ true)
unfolding any_below
any_where t zero e = absurd (true≢false (sym e))
any_where t (suc n) e = go (t n) refl (λ h. any_where t n h) e
  where
    go : (x : Bool) → t n ≡ x → (any_below t n ≡ true → (i : ℕ) × (i < n) × (t i ≡ true)) → (any_below t n || x) ≡ true → (i : ℕ) × (i < suc n) × (t i ≡ true)
    go true q f h = (n, omega arith, q)
    go false q f h = let y = f (or_left (any_below t n) h) in (y.0, omega (arith, y.1), y.2)
      where
        or_left : (a : Bool) → (a || false) ≡ true → a ≡ true
        or_left true z = refl
        or_left false z = z

-- ---- two tests that agree
pub all_same : (t u : ℕ → Bool) (n : ℕ) → ((j : ℕ) → j < n → t j ≡ u j) → all_below t n ≡ all_below u n
unfolding all_below
all_same t u zero h = refl
all_same t u (suc n) h = rw (all_same t u n (λ j l. h j (omega arith)), h n (omega arith))
