-- Octets 2 to 5 of an SRv6 subobject as one number: its unassigned flags and its reserved octets are the bits of a mask. Masking leaves the number below 16 and the
-- one above 4095 (`masked`, by blocks of bits), and these are 0 exactly if the flags and both octets are (`set_fixed`, by arithmetic). Assumes nothing.
use Prim.Native.Nat.{ℕ, ◌+◌, ◌*◌, ◌/◌, ◌%◌, ◌<◌}
use mathlib.Core.Path.{◌≡◌, refl, ◌∙◌, ap}
use mathlib.Core.Bool.{Bool, true, false, not, ◌||◌}
use mathlib.Core.List.{List, [], ◌∷◌}
use lib.Bits.{bit_and, and_mask, and_block}
use lib.Dec.{eqb}
use lib.ListN.{get_or}
use native.Mathlib.Omega.{arith}
use borrow.Author.Tests.{eq-eqb, ne_eqb, eqb-true, eqb-false}
use Rattle.octets.specs.Octets.{octet_of, be16}
use Rattle.octets.proofs.Said.{or_none}
use Rattle.forms.specs.Forms.{srv6_form}
use Rattle.subobject_strays.specs.Strays.{stray_flags, any_set}
use Rattle.octet_sums.specs.Sums.{four_of, four_at}
use Rattle.subobject_strays.specs.Four.{marked_at}
use Rattle.subobject_strays.proofs.Laws.{set_sum, set_worth, set_two}

-- Octets 2 to 5: the unassigned flags, and the reserved two.
low_parts : (a b c d : ℕ) → four_of a b c d / 4096 ≡ 0 → (c + d ≡ 0) × (b < 16)
low_parts a b c d e = let l : four_of a b c d < 4096 = omega arith in (omega arith, omega arith)

low_flags : (a b c d : ℕ) → four_of a b c d % 16 ≡ 0 → a % 16 ≡ 0
low_flags a b c d e = omega arith

none_flags : (a b : ℕ) → a % 16 ≡ 0 → b < 16 → (a * 256 + b) % 4096 / 16 * 16 ≡ 0
none_flags a b e l = let q : (a * 256 + b) % 4096 ≡ b = omega arith in rw q (omega arith)

none_fixed : (a b c d : ℕ) → four_of a b c d % 16 + four_of a b c d / 4096 ≡ 0 → (a * 256 + b) % 4096 / 16 * 16 + (c + d) ≡ 0
none_fixed a b c d e =
    let low : four_of a b c d % 16 ≡ 0 = omega arith in
    let high : four_of a b c d / 4096 ≡ 0 = omega arith in
    let p = low_parts a b c d high in
    rw (none_flags a b (low_flags a b c d low) p.1, p.0)

twelve : (a b : ℕ) → b < 256 → (a * 256 + b) % 4096 ≡ a % 16 * 256 + b
twelve a b l = omega arith

fixed_none : (a b c d : ℕ) → a < 256 → b < 256 → (a * 256 + b) % 4096 / 16 * 16 + (c + d) ≡ 0 → four_of a b c d % 16 + four_of a b c d / 4096 ≡ 0
fixed_none a b c d ha hb e =
    let k : c ≡ 0 = omega arith in
    let l : d ≡ 0 = omega arith in
    let m : (a * 256 + b) % 4096 < 16 = omega arith in
    let n = twelve a b hb in
    let z : a % 16 ≡ 0 = omega (arith, m, n) in
    let y : b < 16 = omega (arith, m, n) in
    let x : four_of a b c d ≡ a + b * 256 = rw (k, l) (omega arith) in
    rw x (small a b ha z y)
  where
    small : (a b : ℕ) → a < 256 → a % 16 ≡ 0 → b < 16 → (a + b * 256) % 16 + (a + b * 256) / 4096 ≡ 0
    small a b ha z y = omega arith

set_fixed : (a b c d : ℕ) → a < 256 → b < 256 → c < 256 → d < 256
    → not (eqb (four_of a b c d % 16 + four_of a b c d / 4096) 0) ≡ (not (eqb ((a * 256 + b) % 4096 / 16 * 16) 0) || any_set (c ∷ d ∷ []))
set_fixed a b c d ha hb hc hd =
    set_worth ((a * 256 + b) % 4096 / 16 * 16 + (c + d)) (four_of a b c d % 16 + four_of a b c d / 4096) (none_fixed a b c d) (fixed_none a b c d ha hb)
    ∙ set_sum ((a * 256 + b) % 4096 / 16 * 16) (c + d)
    ∙ rw (set_sum c d, or_none (not (eqb d 0)))

-- The bits that are looked at: all but those worth 16 to 2048.
masked : (x : ℕ) → x < 4294967296 → eqb (bit_and x 4294963215) 0 ≡ eqb (x % 16 + x / 4096) 0
masked x l =
    let parts : x ≡ x / 4096 * 4096 + x % 4096 = omega arith in
    let high : bit_and (x / 4096) 1048575 ≡ x / 4096 % 1048576 = and_mask (x / 4096) 20 in
    let low : bit_and (x % 4096) 15 ≡ x % 4096 % 16 = and_mask (x % 4096) 4 in
    let both : bit_and (x / 4096 * 4096 + x % 4096) 4294963215 ≡ bit_and (x / 4096) 1048575 * 4096 + bit_and (x % 4096) 15 =
    and_block 12 (x / 4096) 1048575 (x % 4096) 15 (omega arith) (omega arith) in
    let e : bit_and x 4294963215 ≡ x / 4096 * 4096 + x % 16 = ap (λ (y : ℕ). bit_and y 4294963215) parts ∙ both ∙ rw (high, low) (omega arith) in
    rw e (same_zero (x % 16 + x / 4096) (x / 4096 * 4096 + x % 16) (λ z. omega arith) (λ z. omega arith))
  where
    same_zero : (a n : ℕ) → (n ≡ 0 → a ≡ 0) → (a ≡ 0 → n ≡ 0) → eqb n 0 ≡ eqb a 0
    same_zero a n f g = go (eqb a 0) refl
      where
        go : (b : Bool) → eqb a 0 ≡ b → eqb n 0 ≡ eqb a 0
        go true e = rw (e, eq-eqb n 0 (g (eqb-true a 0 e)))
        go false e = rw (e, ne_eqb n 0 (λ z. eqb-false a 0 e (f z)))

module _ (s : List ℕ) (at x : ℕ) (ex : x ≡ four_at s (at + 2)) (small : (i : ℕ) → get_or s i 0 < 256) where
  fixed_set : not (eqb (x % 16 + x / 4096) 0) ≡ (not (eqb (stray_flags srv6_form s at) 0) || any_set (octet_of s (at + 4) ∷ octet_of s (at + 4 + 1) ∷ []))
  unfolding four_at stray_flags be16 octet_of
  fixed_set =
      let four : at + 2 + 2 ≡ at + 4 = omega arith in
      let five : at + 2 + 3 ≡ at + 4 + 1 = omega arith in
      let q =
      set_fixed (octet_of s (at + 2)) (octet_of s (at + 2 + 1)) (octet_of s (at + 2 + 2)) (octet_of s (at + 2 + 3)) (small (at + 2)) (small (at + 2 + 1))
      (small (at + 2 + 2)) (small (at + 2 + 3)) in
      rw (ex, ← five, ← four) q

-- What the code asks is what marks.
module _ (s : List ℕ) (at : ℕ) (small : (i : ℕ) → get_or s i 0 < 256) where
  under : four_at s (at + 2) < 4294967296
  unfolding four_at octet_of
  under =
      let a = small (at + 2) in
      let b = small (at + 2 + 1) in
      let c = small (at + 2 + 2) in
      let d = small (at + 2 + 3) in
      omega arith

  pub masked_marks : {x : ℕ} → x ≡ four_at s (at + 2) → not (eqb (bit_and x 4294963215) 0) ≡ marked_at srv6_form s at
  unfolding marked_at
  masked_marks e =
      rw e
      (ap not (masked (four_at s (at + 2)) under)
      ∙ fixed_set s at (four_at s (at + 2)) refl small
      ∙ rw (set_two s (at + 4), or_none (not (eqb (octet_of s (at + 4 + 1)) 0))))
