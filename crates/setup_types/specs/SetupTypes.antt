-- "TLV 34 holds 3 reserved octets, a count n, n setup types padded to 4, then sub-TLVs" (document 01, "The OPEN object").
use Rattle.std.specs.Prelude.{ℕ, ◌+◌, List, [], ◌∷◌, Bool, true, false, ◌||◌, length, drop, eqb, leb, Option, None, Some}
use Rattle.octets.specs.Octets.{octet_of, pad4, part}
use Rattle.tlvs.specs.Tlvs.{Tlvs, tlvs_of}

-- The type of the TLV.
abbrev pub path_setup : ℕ
path_setup = 34

-- The places of the count and of the first setup type.
abbrev pub count_at : ℕ
count_at = 3

abbrev pub types_at : ℕ
types_at = 4

abbrev pub type_count : List ℕ → ℕ
type_count v = octet_of v count_at

abbrev pub types_of : List ℕ → List ℕ
types_of v = part v types_at (type_count v)

-- The octets up to the sub-TLVs.
unfoldable pub list_size : List ℕ → ℕ
list_size v = types_at + pad4 (type_count v)

-- "must hold its padded list"
abbrev pub holds_list : List ℕ → Bool
holds_list v = leb (list_size v) (length v)

-- "then sub-TLVs"; "only the padding of the last sub-TLV may be missing or cut in TLV 34's length".
abbrev pub subs_of : List ℕ → Tlvs
subs_of v = tlvs_of (drop (list_size v) v) true

abbrev pub has_of : List ℕ → ℕ → Bool
has_of [] x = false
has_of (y ∷ ys) x = eqb y x || has_of ys x

-- A setup type is listed.
unfoldable pub lists_type : List ℕ → ℕ → Bool
lists_type v kind = has_of (types_of v) kind

-- The same of a TLV 34 that need not be there.
abbrev pub listed_in : Option (List ℕ) → ℕ → Bool
listed_in None kind = false
listed_in (Some v) kind = lists_type v kind
