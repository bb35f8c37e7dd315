-- What adding to a route object and finishing it refuse (document 01, "Writing a route"; document 02, C-16): the number of the first broken check, 0 if none is broken. The checks stand in
-- specs/Checks; that the calls answer by them is said in writer/proofs/Checks and writer_begin_finish/proofs/Checks.
use Rattle.std.specs.Prelude.{ℕ, Bool, Result, Ok, Err}
use Rattle.answers.specs.declared.reason.Reason.{Reason}
use Rattle.answers.specs.Reasons.{number_of}
use Rattle.forms.specs.declared.Form.{Form}
use Rattle.subobject.specs.declared.segment.Segment.{Segment}
use Rattle.writer_rules.specs.Checks.{first_number, add_checks, finish_checks}
unfoldable pub use Rattle.writer_rules.specs.Checks.{foreign, passes, bad_place, unfit, no_room}
pub use Rattle.writer_rules.specs.Checks.{most_octets}

unfoldable pub add_number : Form → Segment → Bool → ℕ → ℕ → ℕ
add_number form g ero at room = first_number (add_checks form g ero at room)

unfoldable pub finish_number : ℕ → ℕ → ℕ
finish_number at room = first_number (finish_checks at room)

-- The number that a result refuses by, 0 if it accepts.
abbrev pub refused_number : {A : Type 0} → Result A Reason → ℕ
refused_number (Ok a) = 0
refused_number (Err reason) = number_of reason
