-- Octets that stand at a place of an octet string.
use Prim.Native.Nat.{ℕ, ◌+◌, ◌-◌, ◌≤◌, ◌<◌}
use mathlib.Core.Path.{◌≡◌, refl, sym, ◌∙◌, ap}
use mathlib.Core.Bool.{true}
use mathlib.Core.List.{List, [], ◌∷◌, ◌++◌, append_assoc}
use lib.Dec.{eqb}
use lib.ListN.{length, get_or, take, drop, replicate, length-append, length-drop, take-append-drop, get_or-append, length-replicate, replicate-append-replicate}
use lib.Seq.{length-take-le, take_at, drop_at, get_or-append-add}
use native.Mathlib.Nat.{add-zero}
use native.Mathlib.Omega.{arith}
use borrow.Author.Tests.{eqb-true}
use Rattle.octets.specs.Octets.{octet_of, part, over}
use Rattle.octets.proofs.Said.{both_true}
use Rattle.writer_spare.specs.Spare.{zeros}

-- x stands in s at a place.
pub record StandsAt (s : List ℕ) (at : ℕ) (x : List ℕ) : Type 0 where
  pub before : List ℕ
  pub behind : List ℕ
  pub whole : s ≡ before ++ (x ++ behind)
  pub place : at ≡ length before

module _ {s : List ℕ} {at : ℕ} where
  pub stands_octet : (x : List ℕ) → StandsAt s at x → (i : ℕ) → i < length x → octet_of s (at + i) ≡ get_or x i 0
  unfolding octet_of
  stands_octet x t i h =
      rw (t.whole, t.place) (get_or-append-add t.before (x ++ t.behind) i 0 ∙ get_or-append x t.behind 0 i h)

  pub stands_first : (x : List ℕ) → StandsAt s at x → 0 < length x → octet_of s at ≡ get_or x 0 0
  stands_first x t h = ap (octet_of s) (sym (add-zero at)) ∙ stands_octet x t 0 h

  pub stands_left : (x y : List ℕ) → StandsAt s at (x ++ y) → StandsAt s at x
  stands_left x y t =
      record { before = t.before; behind = y ++ t.behind; whole = t.whole ∙ rw (append_assoc x y t.behind); place = t.place }

  pub stands_right : (x y : List ℕ) → StandsAt s at (x ++ y) → StandsAt s (at + length x) y
  stands_right x y t =
      record { before = t.before ++ x; behind = t.behind; whole = t.whole ∙ simp append_assoc; place = rw (length-append, t.place) }

  -- What stands at a place is the part there.
  pub stands_part : (x : List ℕ) → StandsAt s at x → part s at (length x) ≡ x
  unfolding part
  stands_part x t = rw (t.whole, t.place, drop_at t.before (x ++ t.behind) (length t.before) refl) (take_at x t.behind (length x) refl)

-- zeros --------------------------------------------------------------------------------------------------------

pub zeros_are : (x : List ℕ) → zeros x ≡ true → x ≡ replicate (length x) 0
zeros_are [] e = refl
zeros_are (a ∷ x) e =
    let p = both_true (eqb a 0) (zeros x) e in
    let q = eqb-true a 0 p.0 in
    let r = zeros_are x p.1 in
    λ i. q i ∷ r i

pub drop_zeros : (k n : ℕ) → k ≤ n → drop {A = ℕ} k (replicate n 0) ≡ replicate (n - k) 0
drop_zeros k n h =
    let e : n ≡ k + (n - k) = omega arith in
    let r : replicate {A = ℕ} n 0 ≡ replicate k 0 ++ replicate (n - k) 0 = ap (λ (m : ℕ). replicate m 0) e ∙ sym (replicate-append-replicate k (n - k) 0) in
    rw r (drop_at (replicate k 0) (replicate (n - k) 0) k (length-replicate k 0))

-- Octets in an array that is 0 behind them, of an array that is 0 behind them.
pub padded_back : (l : List ℕ) (k n : ℕ) → length l ≡ n → k ≤ n → zeros (drop k l) ≡ true → over (take k l) (replicate n 0) ≡ l
unfolding over
padded_back l k n e h z =
    let q = zeros_are (drop k l) z in
    let m : length (drop k l) ≡ n - k = omega (arith, length-drop k l) in
    rw (length-take-le k l (omega arith), drop_zeros k n h, ← m, ← q) (take-append-drop k l)
