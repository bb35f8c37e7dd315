-- What a number of an order names, and the number that names a place. Assumes nothing.
use Prim.Native.Nat.{ℕ, ◌+◌, ◌-◌, ◌<◌, ◌≤◌}
use native.Mathlib.Omega.{arith}
use mathlib.Core.Path.{◌≡◌, refl, sym, ◌∙◌}
use mathlib.Core.Logic.{⊎_elim}
use borrow.Author.Tests.{eq-eqb, ne_eqb, lt-ltb, le-ltb}
use Rattle.board_record.specs.Sizes.{places}
use Rattle.board_record.specs.Order.{named, order_number}
use Rattle.board_record.proofs.Logic.{same?, from?}

pub named_none : (n : ℕ) → n ≡ 0 → named n ≡ places
unfolding named
named_none n e = rw (eq-eqb n 0 e)

pub named_some : (n : ℕ) → (n ≡ 0 → ⊥) → named n ≡ n - 1
unfolding named
named_some n d = rw (ne_eqb n 0 d)

pub named_place : (p : ℕ) → named (p + 1) ≡ p
named_place p = let e = named_some (p + 1) (λ z. omega arith) in omega (arith, e)

-- a number that names a place is 1 more
pub number_is : (n : ℕ) → named n < places → n ≡ named n + 1
number_is n l = ⊎_elim (λ e. absurd (omega (arith, named_none n e))) (λ d. omega (arith, named_some n d, d)) (same? n 0)

pub named_number : (p : ℕ) → p ≤ places → named (order_number p) ≡ p
unfolding order_number
named_number p l = ⊎_elim (λ h. rw (le-ltb p 128 h) (named_none 0 refl ∙ omega arith)) (λ h. rw (lt-ltb p 128 h) (named_place p)) (from? 128 p)

pub none_number : (p : ℕ) → places ≤ p → order_number p ≡ 0
unfolding order_number
none_number p l = rw (le-ltb p 128 l)

-- numbers that name one place, or are 0 where they name none, are equal
pub same_number : (n m : ℕ) → named n ≡ named m → (places ≤ named n → n ≡ 0) → (places ≤ named m → m ≡ 0) → n ≡ m
same_number n m e f g =
    ⊎_elim (λ h. f h ∙ sym (g (omega (arith, e)))) (λ h. omega (arith, number_is n h, number_is m (omega (arith, e)), e)) (from? places (named n))
