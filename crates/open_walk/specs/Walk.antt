-- No promise to a caller rests on this file: what the walk inside this library finds, by places in the octets and by the values that lie
-- there. That the answer made of it is the one of open/specs/Open is proved (open/proofs/Laws, `answered`).
use Rattle.std.specs.Prelude.{ℕ, ◌+◌, ◌≤◌, List, Bool, true, false, cond, ◌&&◌, length, Option, None, Some}
use Rattle.octets.specs.Octets.{part}
use Rattle.tlvs.specs.Tlvs.{Tlvs, tlvs_of, tlvs_whole, first_tlv}
use Rattle.setup_types.specs.SetupTypes.{path_setup, list_size, holds_list, subs_of}
use Rattle.tlvs.specs.declared.span.Span.{Span}
use Rattle.tlvs.specs.Places.{value_at, Inside, or_else}
use Rattle.open_walk.specs.declared.Values.{Values}

-- The span of TLV 34 lies within the octets, and holds its padded list.
abbrev pub Listed : List ℕ → Option Span → Type 0
Listed s None = Unit
Listed s (Some p) = (p.from + p.len ≤ length s) × (list_size (part s p.from p.len) ≤ p.len)

abbrev pub Bounds : List ℕ → Option Values → Type 0
Bounds s None = Unit
Bounds s (Some v) = Listed s v.list × Inside v.sub (length s)

-- values -------------------------------------------------------------------------------------------------------

-- What a walk found: the value of the first TLV 34, and that of the first wanted sub-TLV in it.
pub data Sight : Type 0 where
  torn : Sight
  seen : Option (List ℕ) → Option (List ℕ) → Sight

abbrev pub sight_of : List ℕ → Option Values → Sight
sight_of s None = torn
sight_of s (Some v) = seen (value_at s v.list) (value_at s v.sub)

-- What the first TLV 34 gives, if there is one.
abbrev pub inside_of : Option (List ℕ) → Option (List ℕ) → ℕ → Sight
inside_of sub None want = seen None sub
inside_of sub (Some v) want = cond (holds_list v && tlvs_whole (subs_of v)) (seen (Some v) (first_tlv (subs_of v) want)) torn

-- What TLVs that all fit give, after `list` and `sub` were found before them.
abbrev pub level_of : Option (List ℕ) → Option (List ℕ) → Tlvs → Bool → ℕ → Sight
level_of list sub ts true want = seen list (or_else sub (first_tlv ts want))
level_of (Some v) sub ts false want = seen (Some v) sub
level_of None sub ts false want = inside_of sub (first_tlv ts path_setup) want

abbrev pub open_onward : Option (List ℕ) → Option (List ℕ) → Tlvs → Bool → ℕ → Sight
open_onward list sub ts inner want = cond (tlvs_whole ts) (level_of list sub ts inner want) torn

-- The walk over the octets given.
unfoldable pub open_walk : List ℕ → Bool → ℕ → Sight
open_walk s inner want = open_onward None None (tlvs_of s inner) inner want
