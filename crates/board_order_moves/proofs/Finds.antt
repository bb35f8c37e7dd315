-- A look along an order for the first number that passes a test: 128 where none has yet. Assumes nothing.
use Prim.Native.Nat.{ℕ, ◌+◌, ◌<◌, ◌≤◌, min}
use native.Mathlib.Omega.{arith}
use mathlib.Core.Path.{◌≡◌, sym, ap, ◌∙◌}
use mathlib.Core.Bool.{Bool, true, false}
use mathlib.Core.Logic.{⊎_elim}
use Rattle.board_record.specs.Sizes.{places}
use Rattle.board_record.specs.Search.{first_where}
use Rattle.board_record.proofs.Logic.{same?, from?}
use Rattle.board_record.proofs.Search.{first_found}
use Rattle.board_order.proofs.Halves.{first_end}

pub record Looked (t : ℕ → Bool) (i first : ℕ) : Type 0 where
  pub most : first ≤ places
  pub hit : first < places → t first ≡ true
  pub before : (j : ℕ) → j < i → j < first → t j ≡ false

pub looked_none : (t : ℕ → Bool) → Looked t 0 places
looked_none t = record { most = omega arith; hit = λ l. absurd (omega arith); before = λ j l m. absurd (omega arith) }

-- number i passes, or does not
pub looked_hit : (t : ℕ → Bool) (i first r : ℕ) → i < places → Looked t i first → t i ≡ true → r ≡ min first i → Looked t (i + 1) r
looked_hit t i first r l x e q =
    record {
      most = omega arith;
      hit = λ h. ⊎_elim (λ k. let z : r ≡ i = omega (arith, k) in rw z e) (λ k. let z : r ≡ first = omega (arith, k) in rw z (x.hit (omega (arith, k)))) (from? i first);
      before = λ j k m. x.before j (omega arith) (omega arith);
    }

pub looked_miss : (t : ℕ → Bool) (i first r : ℕ) → Looked t i first → t i ≡ false → r ≡ min first places → Looked t (i + 1) r
looked_miss t i first r x e q =
    let z : r ≡ first = omega (arith, x.most) in
    rw z
    (record {
      most = x.most;
      hit = x.hit;
      before = λ j k m. ⊎_elim (λ y. ap t y ∙ e) (λ d. x.before j (omega (arith, d)) m) (same? j i);
    })

pub looked_all : (t : ℕ → Bool) (i first : ℕ) → places ≤ i → Looked t i first → first ≡ first_where t places
looked_all t i first h x =
    ⊎_elim (λ k. let z : first ≡ 128 = omega (arith, x.most) in z ∙ sym (first_end t 128 (λ j l. x.before j (omega arith) (omega arith))))
    (λ k. first_found t 128 first k (first_end t first (λ j l. x.before j (omega arith) l)) (x.hit k)) (from? 128 first)
