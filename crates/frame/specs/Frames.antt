-- The frame of a route object, taken apart once, and the rules 4, 5, 6 and 14 over it (document 01, "The route object").
use Rattle.std.specs.Prelude.{ℕ, zero, suc, ◌+◌, ◌-◌, ◌%◌, List, [], ◌∷◌, Bool, true, false, cond, not, ◌&&◌, ◌||◌, length, ltb, leb, eqb}
use Rattle.octets.specs.Octets.{octet_of}
use Rattle.objects.specs.Objects.{header, unit, object_class, object_kind, object_length, ero_class, rro_class, object_type}
use Rattle.answers.specs.Numbers.{frame_broken, route_empty, kinds_mixed, none_of_form}
use Rattle.subobject.specs.Layout.{kind_of, size_at}
use Rattle.frame.specs.Checks.{Check, check}

-- the frame ----------------------------------------------------------------------------------------------------

-- "ERO is class 7, RRO class 8, both type 1."
abbrev pub class_of : Bool → ℕ
class_of ero = cond ero ero_class rro_class

-- "Class as asked, type 1; object length equals the octets given, is a multiple of 4 and at least 4."
unfoldable pub headed : List ℕ → Bool → Bool
headed s ero =
    not (ltb (length s) header)
    && (eqb (object_class s) (class_of ero)
    && (eqb (object_kind s) object_type && (eqb (object_length s) (length s) && eqb (length s % unit) 0)))

-- "Each subobject length is a multiple of 4, at least 4, and fits" into what is left.
unfoldable pub fits_in : ℕ → ℕ → Bool
fits_in len room = not (ltb len unit) && (eqb (len % unit) 0 && leb len room)

-- A frame taken apart: the places of its subobjects, and whether they fill the object to its end.
pub record Apart : Type 0 where
  pub whole : Bool
  pub places : List ℕ

-- At the object's end;
abbrev pub ended : Apart
ended = record { whole = true; places = [] }

-- at a subobject that doesn't fit;
abbrev pub unfilled : Apart
unfilled = record { whole = false; places = [] }

-- at one that does, with the rest behind it.
abbrev pub from : ℕ → Apart → Apart
from at rest = record { whole = rest.whole; places = at ∷ rest.places }

-- The frame from a place on. The number bounds how many subobjects are looked at: each has octets, so that no object has more of them than octets,
-- and one more is never reached. `Fills` says the same without a bound.
unfoldable pub apart : List ℕ → ℕ → ℕ → Apart
apart s at zero = unfilled
apart s at (suc f) =
    cond (eqb at (length s)) ended
    (cond (fits_in (size_at s at) (length s - at)) (from at (apart s (at + size_at s at) f)) unfilled)

-- The whole frame: subobjects begin behind the header.
unfoldable pub apart_of : List ℕ → Apart
apart_of s = apart s header (suc (length s))

abbrev pub places_of : List ℕ → List ℕ
places_of s = (apart_of s).places

-- types --------------------------------------------------------------------------------------------------------

-- The type of the subobject at a place.
abbrev pub kind_at : List ℕ → Bool → ℕ → ℕ
kind_at s ero at = kind_of (octet_of s at) ero

-- Whether a subobject of the type is present.
abbrev pub any_is : (ℕ → ℕ) → List ℕ → ℕ → Bool
any_is kinds [] kind = false
any_is kinds (p ∷ ps) kind = eqb (kinds p) kind || any_is kinds ps kind

-- The first place whose type isn't this one; 0 if there is none.
abbrev pub other_than : (ℕ → ℕ) → List ℕ → ℕ → ℕ
other_than kinds [] kind = 0
other_than kinds (p ∷ ps) kind = cond (eqb (kinds p) kind) (other_than kinds ps kind) p

-- "The first subobject whose type differs from the first one's"; 0 if there is none.
abbrev pub mixed_at : (ℕ → ℕ) → List ℕ → ℕ
mixed_at kinds [] = 0
mixed_at kinds (p ∷ ps) = other_than kinds ps (kinds p)

-- the rules ----------------------------------------------------------------------------------------------------

-- 4: "route frame broken".
unfoldable pub rule4 : List ℕ → Bool → Bool
rule4 s ero = not (headed s ero && (apart_of s).whole)

-- 5: "no subobject".
unfoldable pub rule5 : List ℕ → Bool
rule5 s = eqb (length (places_of s)) 0

-- 6: "the first subobject whose type differs from the first one's, if any type 40 is present".
unfoldable pub rule6_place : List ℕ → Bool → ℕ
rule6_place s ero = mixed_at (kind_at s ero) (places_of s)

unfoldable pub rule6 : List ℕ → Bool → ℕ → Bool
rule6 s ero kind = any_is (kind_at s ero) (places_of s) kind && not (eqb (rule6_place s ero) 0)

-- 14: "none is type 40".
unfoldable pub rule14 : List ℕ → Bool → ℕ → Bool
rule14 s ero kind = not (any_is (kind_at s ero) (places_of s) kind)

-- "Checks on the whole, in order": 4, 5, 6, 14.
abbrev pub frame_checks : List ℕ → Bool → ℕ → List Check
frame_checks s ero kind =
    check frame_broken 0 (rule4 s ero)
    ∷ check route_empty 0 (rule5 s)
    ∷ check kinds_mixed (rule6_place s ero) (rule6 s ero kind)
    ∷ check none_of_form 0 (rule14 s ero kind)
    ∷ []
