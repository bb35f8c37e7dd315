-- The rules of begin, add and finish as documents 01 ("Writing a route") and 02 (C-16) list them: the checks of each call in their order, each with its number and when it is broken.
-- The number that a call answers is that of the first broken check of its list; "in adding" the place is 0. What adding asks of a subobject stands in the table
-- subobject/specs/Rules.rules.
use Rattle.std.specs.Prelude.{ℕ, ◌+◌, Bool, true, cond, not, ◌&&◌, ◌||◌, List, [], ◌∷◌, ◌++◌, eqb, ltb, length}
use Rattle.answers.specs.Numbers.{route_empty, length_wrong, sid_needed, buffer_full}
use Rattle.answers.specs.First.{first_of}
use Rattle.objects.specs.Objects.{header}
use Rattle.forms.specs.declared.Form.{Form}
use Rattle.subobject.specs.declared.segment.Segment.{Segment}
use Rattle.subobject.specs.Rules.{rule7, label_at, time_at, Subject, RuleRow, rule_row, rules}
use Rattle.subobject.specs.Segments.{outline_of, head_of_segment, subobject_of, bits_of}
use Rattle.frame.specs.Checks.{Check, check}
use Rattle.frame.specs.RuleChecks.{checks_by, without}
use Rattle.writer_spare.specs.Spare.{tidy_of}
unfoldable pub use Rattle.writer_front.specs.Foreign.{foreign}
unfoldable pub use Rattle.writer_tests.specs.Places.{passes, bad_place}
pub use Rattle.writer_tests.specs.Places.{most_octets}

-- The number of the first broken check of a list, 0 if none is broken.
abbrev pub first_number : List Check → ℕ
first_number cs = first_of (λ c. c.broken) (λ c. c.number) cs 0

-- begin --------------------------------------------------------------------------------------------------------

-- "A begin without 4 octets .. is 16."
abbrev pub begin_checks : ℕ → List Check
begin_checks room = check buffer_full 0 (ltb room header) ∷ []

-- add ----------------------------------------------------------------------------------------------------------

-- What the rules of a subobject look at in a segment: the head that it is written with ("F follows from NT"), the sum of its bit lengths, the label and TTL of its SID. Only 10 looks at N,
-- and adding does not ask 10.
abbrev pub subject_of : Form → Segment → Bool → Subject
subject_of form g ero =
    record {
      form = form;
      head = head_of_segment form g;
      bits = bits_of g;
      label = label_at g.sid 0;
      time = time_at g.sid 0;
      ero = ero;
      n = true;
    }

-- 7: "structure without a SID, L or V in an RRO, such octets not 0"; what is foreign to the form; and what breaks 7 in reading, which of this head can only be its flags.
unfoldable pub unfit : Form → Segment → Bool → Bool
unfit form g ero =
    (g.structured && not g.hassid)
    || ((not ero && (g.loose || g.verify)) || (not (tidy_of form g) || (foreign form (outline_of g) || rule7 form (head_of_segment form g))))

-- 16: the object would pass that end, or the place is bad.
unfoldable pub no_room : Form → Segment → ℕ → ℕ → Bool
no_room form g at room = bad_place at room || passes (at + length (subobject_of form g)) room

-- A table in which the rule of a number is broken by something else.
abbrev pub instead_of : List RuleRow → ℕ → (Subject → Bool) → List RuleRow
instead_of [] number broken = []
instead_of (r ∷ rs) number broken = cond (eqb number r.number) (rule_row number r.placed broken) r ∷ instead_of rs number broken

-- "Adding checks 8, 9, 7 (..), 11, then 16"; "29 and 30 after 11": the rules of a subobject in the order of their table, but for 10, and 7 as adding has it; then 16.
abbrev pub add_checks : Form → Segment → Bool → ℕ → ℕ → List Check
add_checks form g ero at room =
    checks_by (instead_of (without rules sid_needed) length_wrong (λ _. unfit form g ero)) (subject_of form g ero) 0
    ++ (check buffer_full 0 (no_room form g at room) ∷ [])

-- finish -------------------------------------------------------------------------------------------------------

-- "A place under 4, no multiple of 4 or past that end, is 16 too; else a finish at place 4 is 5."
abbrev pub finish_checks : ℕ → ℕ → List Check
finish_checks at room = check buffer_full 0 (bad_place at room) ∷ (check route_empty 0 (eqb at header) ∷ [])
