-- Laws of rows and counts. A count rises by one with each number more that passes (`count_raise`); of two tests of which one passes wherever the other does, the
-- counts tell whether they are the same (`count_equal`); and as many values are hit as numbers pass, where no two of these share a value (`count_hits`). Assumes nothing.
use Prim.Native.Nat.{ℕ, zero, suc, ◌+◌, ◌<◌, ◌≤◌}
use native.Mathlib.Omega.{arith}
use mathlib.Core.Path.{◌≡◌, refl, sym, ap, ◌∙◌}
use mathlib.Core.Bool.{Bool, true, false, not, cond}
use mathlib.Core.List.{[], ◌∷◌, ◌++◌}
use mathlib.Core.Logic.{◌⊎◌, inl, inr, ⊎_elim}
use lib.ListN.{length, get_or, replicate, length-append, length-replicate, get_or-replicate, get_or-append, get_or-eq_default}
use lib.Seq.{get_or-append-add}
use lib.Dec.{eqb}
use borrow.Author.Tests.{eq-eqb, ne_eqb, eqb-true}
use Rattle.board_record.specs.Lists.{row, count_below}
use Rattle.board_record.proofs.Logic.{true≢false, same?, from?}

-- ---- a list of zeros
pub zeros : (n j : ℕ) → get_or {A = ℕ} (replicate n 0) j 0 ≡ 0
zeros n j = ⊎_elim (λ l. get_or-eq_default (replicate n 0) 0 (omega (arith, length-replicate {A = ℕ} n 0))) (λ l. get_or-replicate n j 0 0 l) (from? n j)

-- ---- rows
pub length_row : (f : ℕ → ℕ) (n : ℕ) → length (row f n) ≡ n
unfolding row
length_row f zero = refl
length_row f (suc n) = length-append (row f n) (f n ∷ []) ∙ omega (arith, length_row f n)

pub row_at : (f : ℕ → ℕ) (n i : ℕ) → i < n → get_or (row f n) i 0 ≡ f i
unfolding row
row_at f zero i l = absurd (omega arith)
row_at f (suc n) i l = go (row_at f n i) (same? i n)
  where
    go : (i < n → get_or (row f n) i 0 ≡ f i) → (i ≡ n) ⊎ (i ≡ n → ⊥) → get_or (row f n ++ (f n ∷ [])) i 0 ≡ f i
    go p (inl e) =
        let q : i ≡ length (row f n) + 0 = omega (arith, length_row f n) in
        ap (λ (m : ℕ). get_or (row f n ++ (f n ∷ [])) m 0) q ∙ get_or-append-add (row f n) (f n ∷ []) 0 0 ∙ ap f (sym e)
    go p (inr d) = get_or-append (row f n) (f n ∷ []) 0 i (omega (arith, d, length_row f n)) ∙ p (omega (arith, d))

-- ---- counts
pub count_same : (t u : ℕ → Bool) (n : ℕ) → ((j : ℕ) → j < n → u j ≡ t j) → count_below u n ≡ count_below t n
unfolding count_below
count_same t u zero f = refl
count_same t u (suc n) f = rw (f n (omega arith), count_same t u n (λ j l. f j (omega arith)))

pub count_raise : (t u : ℕ → Bool) (n k : ℕ) → k < n → t k ≡ false → u k ≡ true → ((j : ℕ) → (j ≡ k → ⊥) → u j ≡ t j) → count_below u n ≡ suc (count_below t n)
unfolding count_below
count_raise t u zero k l p q f = absurd (omega arith)
count_raise t u (suc n) k l p q f = go (count_raise t u n k) (same? n k)
  where
    go : (k < n → t k ≡ false → u k ≡ true → ((j : ℕ) → (j ≡ k → ⊥) → u j ≡ t j) → count_below u n ≡ suc (count_below t n))
        → (n ≡ k) ⊎ (n ≡ k → ⊥)
        → cond (u n) (suc (count_below u n)) (count_below u n) ≡ suc (cond (t n) (suc (count_below t n)) (count_below t n))
    go r (inl e) = rw (e, p, q) (ap suc (count_same t u k (λ j m. f j (λ z. omega arith))))
    go r (inr d) = rw (f n d, r (omega (arith, d)) p q f) (both (t n))
      where
        both : (x : Bool) → cond x (suc (suc (count_below t n))) (suc (count_below t n)) ≡ suc (cond x (suc (count_below t n)) (count_below t n))
        both true = refl
        both false = refl

pub count_full : (t : ℕ → Bool) (n : ℕ) → ((j : ℕ) → j < n → t j ≡ true) → count_below t n ≡ n
unfolding count_below
count_full t zero f = refl
count_full t (suc n) f = rw (f n (omega arith)) (ap suc (count_full t n (λ j l. f j (omega arith))))

pub count_most : (t : ℕ → Bool) (n : ℕ) → count_below t n ≤ n
unfolding count_below
count_most t zero = omega arith
count_most t (suc n) = go (t n) (count_most t n)
  where
    go : (x : Bool) → count_below t n ≤ n → cond x (suc (count_below t n)) (count_below t n) ≤ suc n
    go true l = omega arith
    go false l = omega arith

pub count_less : (t : ℕ → Bool) (n i : ℕ) → i < n → t i ≡ false → count_below t n < n
unfolding count_below
count_less t zero i l e = absurd (omega arith)
count_less t (suc n) i l e = go (count_less t n i) (same? i n)
  where
    step : (x : Bool) → count_below t n < n → cond x (suc (count_below t n)) (count_below t n) < suc n
    step true m = omega arith
    step false m = omega arith

    go : (i < n → t i ≡ false → count_below t n < n) → (i ≡ n) ⊎ (i ≡ n → ⊥) → cond (t n) (suc (count_below t n)) (count_below t n) < suc n
    go q (inl z) = rw (ap t (sym z) ∙ e) (omega (arith, count_most t n))
    go q (inr d) = step (t n) (q (omega (arith, d)) e)

-- ---- a test that passes wherever another does
pub count_sub : (t u : ℕ → Bool) (n : ℕ) → ((j : ℕ) → j < n → t j ≡ true → u j ≡ true) → count_below t n ≤ count_below u n
unfolding count_below
count_sub t u zero f = omega arith
count_sub t u (suc n) f = go (t n) refl (u n) refl (count_sub t u n (λ j l. f j (omega arith)))
  where
    go : (x : Bool) → t n ≡ x → (y : Bool) → u n ≡ y → count_below t n ≤ count_below u n
        → cond x (suc (count_below t n)) (count_below t n) ≤ cond y (suc (count_below u n)) (count_below u n)
    go true e true g l = omega arith
    go true e false g l = absurd (true≢false (sym (f n (omega arith) e) ∙ g))
    go false e true g l = omega arith
    go false e false g l = l

pub count_missed : (t u : ℕ → Bool) (n k : ℕ) → k < n → t k ≡ false → u k ≡ true → ((j : ℕ) → j < n → t j ≡ true → u j ≡ true)
    → count_below t n < count_below u n
unfolding count_below
count_missed t u zero k l p q f = absurd (omega arith)
count_missed t u (suc n) k l p q f = go (λ h. count_missed t u n k h p q (λ j m. f j (omega arith))) (same? n k)
  where
    step : (x : Bool) → t n ≡ x → (y : Bool) → u n ≡ y → count_below t n < count_below u n
        → cond x (suc (count_below t n)) (count_below t n) < cond y (suc (count_below u n)) (count_below u n)
    step true e true g m = omega arith
    step true e false g m = absurd (true≢false (sym (f n (omega arith) e) ∙ g))
    step false e true g m = omega arith
    step false e false g m = m

    go : (k < n → count_below t n < count_below u n) → (n ≡ k) ⊎ (n ≡ k → ⊥)
        → cond (t n) (suc (count_below t n)) (count_below t n) < cond (u n) (suc (count_below u n)) (count_below u n)
    go r (inl e) = rw (ap t e ∙ p, ap u e ∙ q) (omega (arith, count_sub t u n (λ j m. f j (omega arith))))
    go r (inr d) = step (t n) refl (u n) refl (r (omega (arith, d)))

-- of equal counts they pass the same numbers
pub count_equal : (t u : ℕ → Bool) (n : ℕ) → ((j : ℕ) → j < n → t j ≡ true → u j ≡ true) → count_below u n ≤ count_below t n
    → (j : ℕ) → j < n → u j ≡ true → t j ≡ true
count_equal t u n f h j l q = go (t j) refl
  where
    go : (x : Bool) → t j ≡ x → t j ≡ true
    go true e = e
    go false e = absurd (omega (arith, count_missed t u n j l e q f))

-- ---- what is hit: f takes the value x at one of the first n numbers, among those that pass
unfoldable pub hits : (ℕ → Bool) → (ℕ → ℕ) → ℕ → ℕ → Bool
hits t f zero x = false
hits t f (suc n) x = cond (t n) (cond (eqb (f n) x) true (hits t f n x)) (hits t f n x)

pub hits_not : (t : ℕ → Bool) (f : ℕ → ℕ) (n x : ℕ) → ((j : ℕ) → j < n → t j ≡ true → f j ≡ x → ⊥) → hits t f n x ≡ false
unfolding hits
hits_not t f zero x h = refl
hits_not t f (suc n) x h = go (t n) refl (hits_not t f n x (λ j l. h j (omega arith)))
  where
    go : (y : Bool) → t n ≡ y → hits t f n x ≡ false → cond y (cond (eqb (f n) x) true (hits t f n x)) (hits t f n x) ≡ false
    go true e r = rw (ne_eqb (f n) x (h n (omega arith) e), r)
    go false e r = r

pub record Hit (t : ℕ → Bool) (f : ℕ → ℕ) (n x : ℕ) : Type 0 where
  pub at : ℕ
  pub here : at < n
  pub passes : t at ≡ true
  pub is : f at ≡ x

pub hits_where : (t : ℕ → Bool) (f : ℕ → ℕ) (n x : ℕ) → hits t f n x ≡ true → Hit t f n x
unfolding hits
hits_where t f zero x e = absurd (true≢false (sym e))
hits_where t f (suc n) x e = go (hits_where t f n x) (t n) refl (eqb (f n) x) refl e
  where
    up : Hit t f n x → Hit t f (suc n) x
    up h = record { at = h.at; here = omega (arith, h.here); passes = h.passes; is = h.is }

    go : (hits t f n x ≡ true → Hit t f n x) → (y : Bool) → t n ≡ y → (z : Bool) → eqb (f n) x ≡ z → cond y (cond z true (hits t f n x)) (hits t f n x) ≡ true → Hit t f (suc n) x
    go w true p true q r = record { at = n; here = omega arith; passes = p; is = eqb-true (f n) x q }
    go w true p false q r = up (w r)
    go w false p z q r = up (w r)

pub hits_at : (t : ℕ → Bool) (f : ℕ → ℕ) (n x : ℕ) → Hit t f n x → hits t f n x ≡ true
unfolding hits
hits_at t f n x h = go (hits t f n x) refl
  where
    go : (y : Bool) → hits t f n x ≡ y → hits t f n x ≡ true
    go true e = e
    go false e = absurd (none n h.here e)
      where
        none : (m : ℕ) → h.at < m → hits t f m x ≡ false → ⊥
        none zero l e = omega arith
        none (suc m) l e = ⊎_elim
            (λ q. true≢false (sym (here q) ∙ e))
            (λ d. none m (omega (arith, d)) (below (t m) (eqb (f m) x) e)) (same? m h.at)
          where
            here : m ≡ h.at → cond (t m) (cond (eqb (f m) x) true (hits t f m x)) (hits t f m x) ≡ true
            here q = rw (ap t q ∙ h.passes, eq-eqb (f m) x (ap f q ∙ h.is))

            below : (y z : Bool) → cond y (cond z true (hits t f m x)) (hits t f m x) ≡ false → hits t f m x ≡ false
            below true true r = absurd (true≢false r)
            below true false r = r
            below false z r = r

-- as many values below m are hit as numbers pass, where no two of these share a value
pub count_hits : (t : ℕ → Bool) (f : ℕ → ℕ) (n m : ℕ) → ((j : ℕ) → j < n → t j ≡ true → f j < m)
    → ((i j : ℕ) → i < n → j < n → t i ≡ true → t j ≡ true → f i ≡ f j → i ≡ j)
    → count_below (hits t f n) m ≡ count_below t n
unfolding count_below hits
count_hits t f zero m low one = none m
  where
    none : (q : ℕ) → count_below (hits t f 0) q ≡ 0
    none zero = refl
    none (suc q) = none q
count_hits t f (suc n) m low one = go (t n) refl (count_hits t f n m (λ j l. low j (omega arith)) (λ i j k l. one i j (omega arith) (omega arith)))
  where
    go : (y : Bool) → t n ≡ y → count_below (hits t f n) m ≡ count_below t n
        → count_below (λ x. cond y (cond (eqb (f n) x) true (hits t f n x)) (hits t f n x)) m ≡ cond y (suc (count_below t n)) (count_below t n)
    go true e r =
        count_raise (hits t f n) (λ x. cond (eqb (f n) x) true (hits t f n x)) m (f n) (low n (omega arith) e)
        (hits_not t f n (f n) (λ j l p q. absurd (omega (arith, one j n (omega arith) (omega arith) p e q)))) (rw (eq-eqb (f n) (f n) refl))
        (λ j d. rw (ne_eqb (f n) j (λ z. d (sym z)))) ∙ ap suc r
    go false e r = r

-- those that pass and those that do not are all
pub count_not : (t : ℕ → Bool) (n : ℕ) → count_below (λ j. not (t j)) n + count_below t n ≡ n
unfolding count_below
count_not t zero = refl
count_not t (suc n) = go (t n) (count_not t n)
  where
    go : (x : Bool) → count_below (λ j. not (t j)) n + count_below t n ≡ n
        → cond (not x) (suc (count_below (λ j. not (t j)) n)) (count_below (λ j. not (t j)) n) + cond x (suc (count_below t n)) (count_below t n) ≡ suc n
    go true e = omega (arith, e)
    go false e = omega (arith, e)
