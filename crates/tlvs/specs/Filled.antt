-- TLVs without a bound on their number: one behind the other, they fill an octet string to its end (document 01, "The OPEN object": "every TLV must fit").
use Rattle.std.specs.Prelude.{ℕ, ◌≡◌, Bool, true, List, length}
use Rattle.tlvs.specs.Tlvs.{Tlvs, tlvs_end, tlv, tlv_kind, tlv_value, tlv_behind, tlv_fits}

-- These TLVs fill these octets. `short`: of the last one the padding may be missing or cut.
pub data Filled (short : Bool) : List ℕ → Tlvs → Type 0 where
  none_left : {s : List ℕ} → length s ≡ 0 → Filled short s tlvs_end
  one_more : {s : List ℕ} {rest : Tlvs} → (length s ≡ 0 → ⊥) → tlv_fits s short ≡ true → Filled short (tlv_behind s) rest
      → Filled short s (tlv (tlv_kind s) (tlv_value s) rest)
