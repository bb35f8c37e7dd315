-- A route object is begun, and finished (document 01, "Writing a route"; document 02, C-16). What finish refuses stands in writer_rules/specs/Refusals, the checks of begin and finish in
-- writer_rules/specs/Checks; that each answers by the first broken one is said in proofs/Checks.
use Rattle.std.specs.Prelude.{ℕ, ◌*◌, List, [], ◌∷◌, Bool, length}
use Rattle.answers.specs.Verdicts.{kept}
use Rattle.octets.specs.Octets.{hi, lo, over, placed}
use Rattle.objects.specs.Objects.{header, length_place, type_worth, object_type}
use Rattle.forms.specs.Forms.{form_of}
use Rattle.frame.specs.Frames.{class_of}
use Rattle.writer_state.specs.declared.Writer.{Writer}
use Rattle.writer_state.specs.Written.{Written}
use Rattle.writer_state.specs.Answers.{answered}
use Rattle.writer_rules.specs.Checks.{first_number, begin_checks}
use Rattle.writer_rules.specs.Refusals.{finish_number}

-- the header ---------------------------------------------------------------------------------------------------

-- "ERO is class 7, RRO class 8, both type 1": the class is the one that the reader asks for. The type stands in the high 4 bits;
-- "header low bits are 0".
unfoldable pub header_of : Bool → ℕ → List ℕ
header_of ero size = class_of ero ∷ (object_type * type_worth) ∷ hi size ∷ lo size ∷ []

-- begin --------------------------------------------------------------------------------------------------------

-- The number of the first broken check, 0 if none is broken.
unfoldable pub begin_number : ℕ → ℕ
begin_number room = first_number (begin_checks room)

-- "Begin takes the form (the PST; not 1 is SRv6's). The state keeps it."
unfoldable pub begin_answer : List ℕ → Writer → Bool → ℕ → Written
begin_answer b w ero pst = answered (begin_number (length b)) w (record { ero = ero; at = header; form = (form_of pst).setup })

-- "Begin writes the header with length 4."
unfoldable pub begin_buffer : List ℕ → Writer → Bool → List ℕ
begin_buffer b w ero = kept (begin_number (length b)) b (over (header_of ero header) b)

-- finish -------------------------------------------------------------------------------------------------------

unfoldable pub finish_answer : List ℕ → Writer → Written
finish_answer b w = answered (finish_number w.at (length b)) w w

-- "Begin writes the header .., finish the length", at octets 2 and 3 of the object.
unfoldable pub finish_buffer : List ℕ → Writer → List ℕ
finish_buffer b w = kept (finish_number w.at (length b)) b (placed b length_place (hi w.at ∷ lo w.at ∷ []))
