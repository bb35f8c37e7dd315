-- The loops that look at every place: what they count. Assumes nothing.
use Prim.Native.Nat.{ℕ, zero, suc, ◌+◌, ◌-◌, ◌<◌, ◌≤◌}
use native.Mathlib.Numerals.{add-one}
use native.Mathlib.Omega.{arith}
use mathlib.Core.Path.{◌≡◌, refl}
use mathlib.Core.Bool.{Bool, true, false, not, cond}
use mathlib.Core.Logic.{⊎_elim}
use lib.Dec.{eqb}
use borrow.Author.Tests.{eq-eqb, eqb-true}
use Rattle.octets.proofs.Said.{and_holding}
use Rattle.board_record.specs.Sizes.{places}
use Rattle.board_record.specs.Lists.{count_below}
use Rattle.board_record.specs.Proper.{all_below}
use Rattle.board_record.proofs.Logic.{from?, test_is}
use Rattle.board_record.proofs.Lists.{count_most, count_full, count_less, count_not}
use Rattle.board_record.proofs.All.{all_of, all_at}

-- ---- a count
pub count_none : (t : ℕ → Bool) → 0 ≡ count_below t 0
unfolding count_below
count_none t = refl

pub count_more : (t : ℕ → Bool) (i n x : ℕ) → n ≡ count_below t i → x ≡ cond (t i) 1 0 → n + x ≡ count_below t (i + 1)
unfolding count_below
count_more t i n x e f = rw (add-one i, count_below, f) (go (t i))
  where
    go : (y : Bool) → n + cond y 1 0 ≡ cond y (suc (count_below t i)) (count_below t i)
    go true = omega (arith, e)
    go false = omega (arith, e)

pub count_end : (t : ℕ → Bool) (i m n : ℕ) → i ≤ m → m ≤ i → n ≡ count_below t i → n ≡ count_below t m
count_end t i m n h l e = let q : i ≡ m = omega arith in rw q at e

-- where those from m on pass
pub count_rest : (t : ℕ → Bool) (m n : ℕ) → m ≤ n → ((j : ℕ) → m ≤ j → j < n → t j ≡ true) → count_below t m + (n - m) ≡ count_below t n
unfolding count_below
count_rest t m zero l g = let q : m ≡ 0 = omega arith in rw q refl
count_rest t m (suc n) l g =
    ⊎_elim (λ h. rw (count_below, g n h (omega arith)) (omega (arith, count_rest t m n h (λ j y k. g j y (omega arith)))))
    (λ (h : n < m). let q : m ≡ suc n = omega arith in rw q (omega arith)) (from? m n)

pub all_rest : (t : ℕ → Bool) (m n : ℕ) → m ≤ n → ((j : ℕ) → m ≤ j → j < n → t j ≡ true) → all_below t m ≡ all_below t n
unfolding all_below
all_rest t m zero l g = let q : m ≡ 0 = omega arith in rw q refl
all_rest t m (suc n) l g =
    ⊎_elim (λ h. rw (all_below, g n h (omega arith), and_holding (all_below t n)) (all_rest t m n h (λ j y k. g j y (omega arith))))
    (λ (h : n < m). let q : m ≡ suc n = omega arith in rw q refl) (from? m n)

-- it fits an octet
pub count_small : (t : ℕ → Bool) (i n x : ℕ) → i < places → n ≡ count_below t i → x ≡ cond (t i) 1 0 → n + x ≤ places
count_small t i n x l e f = omega (arith, count_most t i, e, one (t i) f)
  where
    one : (y : Bool) → x ≡ cond y 1 0 → x ≤ 1
    one true q = omega arith
    one false q = omega arith

-- where the first i fail and the others pass
pub cut_count : (t : ℕ → Bool) (i n : ℕ) → i ≤ n → ((j : ℕ) → j < i → t j ≡ false) → ((j : ℕ) → i ≤ j → j < n → t j ≡ true) → count_below t n ≡ n - i
unfolding count_below
cut_count t i zero l f g = omega arith
cut_count t i (suc n) l f g =
    ⊎_elim (λ h. rw (count_below, g n h (omega arith)) (omega (arith, cut_count t i n h f (λ j y k. g j y (omega arith)))))
    (λ h. omega (arith, count_not t (suc n), count_full (λ j. not (t j)) (suc n) (λ j k. rw (f j (omega arith))))) (from? i n)

-- ---- all pass where none fails
pub none_fails : (t : ℕ → Bool) (m n : ℕ) → n ≡ count_below (λ i. not (t i)) m → eqb n 0 ≡ all_below t m
none_fails t m n e = test_is (eqb n 0) (all_below t m) all none
  where
    all : eqb n 0 ≡ true → all_below t m ≡ true
    all z = all_of t m (λ i l. go i l (t i) refl)
      where
        go : (i : ℕ) → i < m → (y : Bool) → t i ≡ y → t i ≡ true
        go i l true q = q
        go i l false q = absurd (omega (arith, count_less t m i l q, count_not t m, e, eqb-true n 0 z))

    none : all_below t m ≡ true → eqb n 0 ≡ true
    none a = eq-eqb n 0 (omega (arith, count_not t m, count_full t m (all_at t m a), e))
