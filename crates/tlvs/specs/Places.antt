-- No promise to a caller rests on this file: a TLV by its places in the octet string, as the walk inside this library finds it. That
-- the items so found are the TLVs of specs/Tlvs is proved (proofs/Laws).
use Rattle.std.specs.Prelude.{ℕ, ◌+◌, ◌-◌, ◌≤◌, ◌≡◌, List, Bool, cond, ltb, Option, None, Some}
use Rattle.octets.specs.Octets.{be16, pad4, part}
use Rattle.tlvs.specs.Tlvs.{tlv_head, tlv_length_place}
use Rattle.tlvs.specs.declared.Item.{Item}
use Rattle.tlvs.specs.declared.span.Span.{Span}

-- The length of the TLV at a place.
abbrev pub tlv_length_at : List ℕ → ℕ → ℕ
tlv_length_at s at = be16 s (at + tlv_length_place)

-- The TLV at `at` of those that end at `end`. With `short` its padding may be missing or cut at the end.
unfoldable pub item_at : List ℕ → Bool → ℕ → ℕ → Option Item
item_at s short at end =
    cond (ltb (end - at) tlv_head) None
    (cond (ltb (end - at) (tlv_head + cond short (tlv_length_at s at) (pad4 (tlv_length_at s at)))) None
    (Some (record { kind = be16 s at; value = record { from = at + tlv_head; len = tlv_length_at s at }; next = at + tlv_head + pad4 (tlv_length_at s at) })))

-- A value lies before the end, and the next item behind its head.
abbrev pub Within : Option Item → ℕ → ℕ → Type 0
Within None at end = Unit
Within (Some i) at end = (i.value.from ≡ at + tlv_head) × (at + tlv_head ≤ i.next) × (i.value.from + i.value.len ≤ end)

-- where values lie -------------------------------------------------------------------------------------------

-- The value that lies at a span, if one was found.
abbrev pub value_at : List ℕ → Option Span → Option (List ℕ)
value_at s None = None
value_at s (Some p) = Some (part s p.from p.len)

-- A span that was found lies within n octets.
abbrev pub Inside : Option Span → ℕ → Type 0
Inside None n = Unit
Inside (Some p) n = p.from + p.len ≤ n

-- What was found before, or else this.
abbrev pub or_else : Option (List ℕ) → Option (List ℕ) → Option (List ℕ)
or_else (Some v) o = Some v
or_else None o = o
