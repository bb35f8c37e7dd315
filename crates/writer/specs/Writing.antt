-- A route object is given one segment at a time (document 01, "Writing a route"; document 02, C-16). What add refuses stands in
-- writer_rules/specs/Refusals.
use Rattle.std.specs.Prelude.{ℕ, ◌+◌, List, length}
use Rattle.answers.specs.Verdicts.{kept}
use Rattle.octets.specs.Octets.{placed}
use Rattle.forms.specs.declared.Form.{Form}
use Rattle.forms.specs.Forms.{form_of}
use Rattle.subobject.specs.declared.segment.Segment.{Segment}
use Rattle.subobject.specs.Segments.{subobject_of}
use Rattle.writer_rules.specs.Refusals.{add_number}
use Rattle.writer_state.specs.declared.Writer.{Writer}
use Rattle.writer_state.specs.Written.{Written}
use Rattle.writer_state.specs.Answers.{answered}

-- A segment of a form:
unfoldable pub add_answer_in : List ℕ → Form → Writer → Segment → Written
add_answer_in b form w g =
    answered (add_number form g w.ero w.at (length b)) w (record { ero = w.ero; at = w.at + length (subobject_of form g); form = w.form })

-- "each segment is written into the rest of the lent buffer from the present place on; octets behind it stay."
unfoldable pub add_buffer_in : List ℕ → Form → Writer → Segment → List ℕ
add_buffer_in b form w g = kept (add_number form g w.ero w.at (length b)) b (placed b w.at (subobject_of form g))

-- The form is the one that the state names.
abbrev pub add_answer : List ℕ → Writer → Segment → Written
add_answer b w g = add_answer_in b (form_of w.form) w g

abbrev pub add_buffer : List ℕ → Writer → Segment → List ℕ
add_buffer b w g = add_buffer_in b (form_of w.form) w g
