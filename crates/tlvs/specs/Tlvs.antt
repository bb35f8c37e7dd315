-- The TLVs of an octet string (document 01, "The OPEN object").
use Rattle.std.specs.Prelude.{ℕ, zero, suc, ◌+◌, List, Bool, true, false, cond, ◌&&◌, length, drop, eqb, leb, Option, None, Some}
use Rattle.octets.specs.Octets.{be16, pad4, part}

-- The octets of type and length, and the place of the length.
abbrev pub tlv_head : ℕ
tlv_head = 4

abbrev pub tlv_length_place : ℕ
tlv_length_place = 2

-- "A TLV is type (2), length (2), value, then padding to a multiple of 4 that the length doesn't count."
abbrev pub tlv_kind : List ℕ → ℕ
tlv_kind s = be16 s 0

abbrev pub tlv_length : List ℕ → ℕ
tlv_length s = be16 s tlv_length_place

abbrev pub tlv_value : List ℕ → List ℕ
tlv_value s = part s tlv_head (tlv_length s)

abbrev pub tlv_behind : List ℕ → List ℕ
tlv_behind s = drop (tlv_head + pad4 (tlv_length s)) s

-- Whether a TLV fits at the start of an octet string: its head, its value and its padding.
-- `short`: of the last one the padding may be missing or cut.
abbrev pub tlv_fits : List ℕ → Bool → Bool
tlv_fits s short = leb tlv_head (length s) && leb (tlv_head + cond short (tlv_length s) (pad4 (tlv_length s))) (length s)

-- The TLVs up to the last octet, or up to the first place where none fits.
pub data Tlvs : Type 0 where
  tlvs_end : Tlvs
  tlvs_cut : Tlvs
  tlv : ℕ → List ℕ → Tlvs → Tlvs

abbrev pub tlv_turn : List ℕ → Bool → Bool → (List ℕ → Tlvs) → Tlvs
tlv_turn s true fits on = tlvs_end
tlv_turn s false false on = tlvs_cut
tlv_turn s false true on = tlv (tlv_kind s) (tlv_value s) (on (tlv_behind s))

-- The number only bounds how many are read; each takes at least 4 octets. specs/Filled says the same without a bound.
unfoldable pub tlvs_in : List ℕ → Bool → ℕ → Tlvs
tlvs_in s short zero = tlvs_cut
tlvs_in s short (suc n) = tlv_turn s (eqb (length s) 0) (tlv_fits s short) (λ rest. tlvs_in rest short n)

unfoldable pub tlvs_of : List ℕ → Bool → Tlvs
tlvs_of s short = tlvs_in s short (suc (length s))

-- Every TLV fits.
abbrev pub tlvs_whole : Tlvs → Bool
tlvs_whole tlvs_end = true
tlvs_whole tlvs_cut = false
tlvs_whole (tlv kind value rest) = tlvs_whole rest

-- The value of the first one of a type: "the first is used and the others are only walked".
abbrev pub first_tlv : Tlvs → ℕ → Option (List ℕ)
first_tlv tlvs_end want = None
first_tlv tlvs_cut want = None
first_tlv (tlv kind value rest) want = cond (eqb kind want) (Some value) (first_tlv rest want)

-- There is none.
abbrev pub not_there : Option (List ℕ) → Bool
not_there None = true
not_there (Some value) = false
