-- The TLVs of an octet string are whole exactly if TLVs fill it, and are these; only the last one's padding may be missing or cut. Assumes nothing.
use Prim.Native.Nat.{ℕ, zero, suc, ◌+◌, ◌≤◌, ◌<◌}
use native.Mathlib.Omega.{arith}
use mathlib.Core.Path.{◌≡◌, refl}
use mathlib.Core.Bool.{Bool, true, false, false≢true}
use mathlib.Core.List.{List, []}
use lib.Dec.{eqb, leb}
use lib.ListN.{length, length-drop, drop_of_length-le}
use borrow.Author.Tests.{eq-eqb, ne_eqb, eqb-true, eqb-false, leb-false}
use Rattle.octets.specs.Octets.{pad4}
use Rattle.octets.proofs.Said.{both_true}
use Rattle.tlvs.specs.Tlvs.{Tlvs, tlvs_end, tlvs_cut, tlv, tlv_head, tlv_length, tlv_behind, tlv_fits, tlv_turn, tlvs_in, tlvs_of, tlvs_whole}
use Rattle.tlvs.specs.Filled.{Filled, none_left, one_more}

-- Behind a TLV there is less than there was.
less : (s : List ℕ) → (length s ≡ 0 → ⊥) → length (tlv_behind s) < length s
less s h = rw (length-drop (tlv_head + pad4 (tlv_length s)) s) (omega arith)

module _ (short : Bool) where
  fill : (n : ℕ) (s : List ℕ) → tlvs_whole (tlvs_in s short n) ≡ true → Filled short s (tlvs_in s short n)
  unfolding tlvs_in
  fill zero s w = absurd (false≢true w)
  fill (suc n) s w = go (eqb (length s) 0) refl (tlv_fits s short) refl w (fill n (tlv_behind s))
    where
      go : (x : Bool) → eqb (length s) 0 ≡ x → (y : Bool) → tlv_fits s short ≡ y
          → tlvs_whole (tlv_turn s x y (λ rest. tlvs_in rest short n)) ≡ true
          → (tlvs_whole (tlvs_in (tlv_behind s) short n) ≡ true → Filled short (tlv_behind s) (tlvs_in (tlv_behind s) short n))
          → Filled short s (tlv_turn s x y (λ rest. tlvs_in rest short n))
      go true e y d w rest = none_left (eqb-true (length s) 0 e)
      go false e false d w rest = absurd (false≢true w)
      go false e true d w rest = one_more (eqb-false (length s) 0 e) d (rest w)

  filled : (s : List ℕ) (ts : Tlvs) → Filled short s ts → (n : ℕ) → length s < n → tlvs_in s short n ≡ ts
  unfolding tlvs_in
  filled s ts f zero h = absurd (omega arith)
  filled s tlvs_end (none_left e) (suc n) h = rw (eq-eqb (length s) 0 e)
  filled s tlvs_cut f (suc n) h = elim f [ ]
  filled s (tlv k v rest) (one_more e d f) (suc n) h =
      rw (ne_eqb (length s) 0 e, d, filled (tlv_behind s) rest f n (omega (arith, less s e)))

  filled_whole : {s : List ℕ} {ts : Tlvs} → Filled short s ts → tlvs_whole ts ≡ true
  filled_whole (none_left e) = refl
  filled_whole (one_more e d f) = filled_whole f

  -- TLVs that are whole fill the octets,
  pub whole_filled : (s : List ℕ) → tlvs_whole (tlvs_of s short) ≡ true → Filled short s (tlvs_of s short)
  unfolding tlvs_of
  whole_filled s w = fill (suc (length s)) s w

  -- and TLVs that fill the octets are theirs, and whole.
  pub filled_are : (s : List ℕ) (ts : Tlvs) → Filled short s ts → (tlvs_of s short ≡ ts) × (tlvs_whole ts ≡ true)
  unfolding tlvs_of
  filled_are s ts f = (filled s ts f (suc (length s)) (omega arith), filled_whole f)

-- "Only the padding of the last sub-TLV may be missing or cut": behind one that fits only so there is nothing.
pub only_the_last : (s : List ℕ) → tlv_fits s true ≡ true → tlv_fits s false ≡ false → tlv_behind s ≡ []
only_the_last s e d =
    let h : leb tlv_head (length s) ≡ true = (both_true (leb tlv_head (length s)) (leb (tlv_head + tlv_length s) (length s)) e).0 in
    let g : length s ≤ tlv_head + pad4 (tlv_length s) = omega (arith, leb-false (tlv_head + pad4 (tlv_length s)) (length s) (rw h at d)) in
    drop_of_length-le s g
