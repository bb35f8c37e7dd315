-- What the subobject reader answers: what is set and ought to be 0, or a refusal with number and place (document 01, "The route object";
-- document 02, C-18).
use Rattle.std.specs.Prelude.{ℕ, ◌-◌, Bool, cond, List, Result, Ok, Err, ltb, length}
use Rattle.answers.specs.declared.refusal.Refusal.{Refusal}
use Rattle.answers.specs.Numbers.{length_wrong}
use Rattle.answers.specs.Reasons.{number_of}
use Rattle.forms.specs.declared.Form.{Form}
use Rattle.subobject.specs.Layout.{expected_at}
use Rattle.subobject_strays.specs.declared.Strays.{Strays}
use Rattle.subobject_strays.specs.Strays.{strays_at}

-- A subobject that is there whole, with what is set in it that ought to be 0, or the number and the place of a refusal.
pub data Reading : Type 0 where
  Whole : Strays → Reading
  Refused : ℕ → ℕ → Reading

-- A result as such an answer.
abbrev pub reading_of : Result Strays Refusal → Reading
reading_of (Ok x) = Whole x
reading_of (Err e) = Refused (number_of e.reason) e.place

-- 7 at its place, "Length isn't as expected", where the octets end before the subobject does.
unfoldable pub read_of : Form → List ℕ → Bool → ℕ → Reading
read_of form s ero at =
    cond (ltb (length s - at) (expected_at form s ero at)) (Refused length_wrong at) (Whole (strays_at form s ero at))
