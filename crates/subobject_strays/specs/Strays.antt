-- What is set in a subobject that ought to be 0: "the unassigned flag bits", and "if reserved octets were not zero" (document 02, C-18).
-- Assigned, so no strays: T where S is 1, V in an RRO. The object header's low bits are no subobject's.
use Rattle.std.specs.Prelude.{ℕ, ◌+◌, ◌*◌, ◌/◌, ◌%◌, Bool, false, cond, not, ◌||◌, List, [], ◌∷◌, ◌++◌, eqb}
use Rattle.octets.specs.Octets.{octet_of, be16}
use Rattle.forms.specs.declared.Form.{Form}
use Rattle.subobject.specs.declared.head.Head.{Head}
use Rattle.subobject_strays.specs.declared.Strays.{Strays}
use Rattle.subobject.specs.Layout.{flags_place, bit_lengths, structure_place, head_at}
use Rattle.subobject.specs.Rules.{has_structure}

-- "2-3: NT (4 bits), 12 flags", of which the form assigns the lowest: the 12 flags with these 0.
abbrev pub all_flags : ℕ
all_flags = 4096

unfoldable pub stray_flags : Form → List ℕ → ℕ → ℕ
stray_flags form s at = be16 s (at + flags_place) % all_flags / form.free * form.free

-- "SID structure, 8, if T is 1 and S is 0: four bit lengths, 3 reserved, 1 flags": the flags, all of them unassigned; 0 without a structure.
abbrev pub structure_reserved : Form → Head → ℕ → ℕ
structure_reserved form h at = structure_place form h.nt at + bit_lengths

abbrev pub structure_reserved_size : ℕ
structure_reserved_size = 3

unfoldable pub structure_flags : Form → Head → List ℕ → ℕ → ℕ
structure_flags form h s at = cond (has_structure h) (octet_of s (structure_reserved form h at + structure_reserved_size)) 0

-- "4-5 reserved", where the form has them, and the structure's three where it is there.
abbrev pub reserved_place : ℕ
reserved_place = 4

unfoldable pub reserved_octets : Form → Head → List ℕ → ℕ → List ℕ
reserved_octets form h s at =
    cond form.behaves (octet_of s (at + reserved_place) ∷ octet_of s (at + reserved_place + 1) ∷ []) []
    ++ cond (has_structure h)
    (octet_of s (structure_reserved form h at) ∷ octet_of s (structure_reserved form h at + 1) ∷ octet_of s (structure_reserved form h at + 2) ∷ []) []

-- Whether one of these is not 0.
abbrev pub any_set : List ℕ → Bool
any_set [] = false
any_set (x ∷ xs) = not (eqb x 0) || any_set xs

-- The three of the subobject at a place, by the head found there.
abbrev pub strays_by : Form → Head → List ℕ → ℕ → Strays
strays_by form h s at =
    record { flags = stray_flags form s at; structure = structure_flags form h s at; reserved = any_set (reserved_octets form h s at) }

unfoldable pub strays_at : Form → List ℕ → Bool → ℕ → Strays
strays_at form s ero at = strays_by form (head_at form s ero at) s at

-- What comes with a refusal.
abbrev pub no_strays : Strays
no_strays = record { flags = 0; structure = 0; reserved = false }

-- A segment is stray in any of the three ways, and counts once.
abbrev pub is_stray : Strays → Bool
is_stray x = not (eqb x.flags 0) || (not (eqb x.structure 0) || x.reserved)

abbrev pub stray_one : Strays → ℕ
stray_one x = cond (is_stray x) 1 0

-- How many of the subobjects at these places are stray.
abbrev pub stray_in : Form → List ℕ → Bool → List ℕ → ℕ
stray_in form s ero [] = 0
stray_in form s ero (p ∷ ps) = stray_one (strays_at form s ero p) + stray_in form s ero ps
