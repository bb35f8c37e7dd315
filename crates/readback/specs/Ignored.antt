-- The bits of a route object that reading ignores, each as a number, and the segments that the reader hands out
-- (document 01, "The route object").
use Rattle.std.specs.Prelude.{ℕ, zero, suc, ◌+◌, ◌-◌, ◌/◌, ◌%◌, ◌<◌, Bool, cond, List, [], ◌∷◌, ◌++◌, eqb}
use Rattle.octets.specs.Octets.{octet_of, part}
use Rattle.forms.specs.declared.Form.{Form}
use Rattle.forms.specs.Forms.{flag_in}
use Rattle.session.specs.declared.Session.{Session}
use Rattle.subobject.specs.declared.segment.Segment.{Segment}
use Rattle.objects.specs.Objects.{type_place, type_worth}
use Rattle.subobject.specs.Layout.{worth_nt, flags_place, low_flags_place, structure_size, bit_lengths, head_at, structure_place}
use Rattle.subobject.specs.Rules.{has_structure}
use Rattle.subobject_strays.specs.Strays.{reserved_place}
use Rattle.frame.specs.Frames.{places_of}
use Rattle.route.specs.Routes.{judge_of, segment_of}

-- Octets: numbers below 256.
abbrev pub EachOctet : List ℕ → Type 0
EachOctet [] = Unit {0}
EachOctet (x ∷ xs) = (x < 256) × EachOctet xs

-- ignored bits -------------------------------------------------------------------------------------------------

-- Strays (document 02, C-18; subobject_strays/specs/Strays): what is unassigned or reserved in the fixed part,
abbrev pub unassigned_at : Form → List ℕ → ℕ → List ℕ
unassigned_at form s at =
    -- "12 flags; the last four are V, T, F, S": the other eight are unassigned; for MPLS, whose last five are V, F, S, C, M, the other seven
    (octet_of s (at + flags_place) % worth_nt) ∷ (octet_of s (at + low_flags_place) / form.free)
    -- "4-5 reserved", where the form has them
    ∷ cond form.behaves (octet_of s (at + reserved_place) ∷ octet_of s (at + (reserved_place + 1)) ∷ []) []

-- and of a structure the "3 reserved, 1 flags".
abbrev pub ending_at : Form → List ℕ → Bool → ℕ → List ℕ
ending_at form s ero at =
    cond (has_structure (head_at form s ero at)) (part s (structure_place form (head_at form s ero at).nt at + bit_lengths) (structure_size - bit_lengths)) []

-- No strays, since they are assigned flags:
abbrev pub assigned_at : Form → List ℕ → Bool → ℕ → List ℕ
assigned_at form s ero at =
    -- in RRO "V is ignored"
    cond ero 0 (flag_in (octet_of s (at + low_flags_place)) form.v)
    -- "T is ignored where S is 1"
    ∷ cond (eqb (head_at form s ero at).s 0) 0 (head_at form s ero at).t ∷ []

-- All of the subobject at a place. In RRO "all 8 bits of the first octet are the type": L is not among the ignored bits.
abbrev pub ignored_at : Form → List ℕ → Bool → ℕ → List ℕ
ignored_at form s ero at = unassigned_at form s at ++ (assigned_at form s ero at ++ ending_at form s ero at)

abbrev pub stray_bits_at : Form → List ℕ → Bool → ℕ → List ℕ
stray_bits_at form s ero at = unassigned_at form s at ++ ending_at form s ero at

abbrev pub ignored_in : Form → List ℕ → Bool → List ℕ → List ℕ
ignored_in form s ero [] = []
ignored_in form s ero (p ∷ ps) = ignored_at form s ero p ++ ignored_in form s ero ps

abbrev pub stray_bits_in : Form → List ℕ → Bool → List ℕ → List ℕ
stray_bits_in form s ero [] = []
stray_bits_in form s ero (p ∷ ps) = stray_bits_at form s ero p ++ stray_bits_in form s ero ps

abbrev pub assigned_in : Form → List ℕ → Bool → List ℕ → List ℕ
assigned_in form s ero [] = []
assigned_in form s ero (p ∷ ps) = assigned_at form s ero p ++ assigned_in form s ero ps

-- Of the object: "type in the high 4 bits of the next octet (the low 4 are ignored)", no strays, and of each subobject.
abbrev pub ignored_of : Form → List ℕ → Bool → List ℕ
ignored_of form s ero = (octet_of s type_place % type_worth) ∷ ignored_in form s ero (places_of s)

-- what is read -------------------------------------------------------------------------------------------------

-- n segments from segment i on, each asked for by its number.
abbrev pub asked_from : List ℕ → Bool → Session → ℕ → ℕ → ℕ → List Segment
asked_from s ero session pst i zero = []
asked_from s ero session pst i (suc n) = (segment_of s ero session pst i).segment ∷ asked_from s ero session pst (suc i) n

-- All segments of an object.
abbrev pub segments_read : List ℕ → Bool → Session → ℕ → List Segment
segments_read s ero session pst = asked_from s ero session pst 0 (judge_of s ero session pst).count
