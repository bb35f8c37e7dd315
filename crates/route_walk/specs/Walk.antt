-- "Then subobject by subobject, in each: 8, 9, 7, 10, 11" (document 01, "The route object"), then 29 and 30: the checks of a route's subobjects, and the answer that
-- the first broken one gives. The rules and their table stand in subobject/specs/Rules.
use Rattle.std.specs.Prelude.{ℕ, List, [], ◌∷◌, ◌++◌, Bool}
use Rattle.answers.specs.declared.verdict.Verdict.{Verdict}
use Rattle.answers.specs.Verdicts.{carrying_both}
use Rattle.forms.specs.declared.Form.{Form}
use Rattle.subobject.specs.Rules.{subject_at, rules}
use Rattle.subobject_strays.specs.Strays.{stray_in}
use Rattle.frame.specs.Checks.{Check, first_broken}
use Rattle.frame.specs.Frames.{places_of}
use Rattle.frame.specs.RuleChecks.{checks_by}

-- The checks of the subobject at a place.
abbrev pub checks_at : Form → List ℕ → Bool → Bool → ℕ → List Check
checks_at form s ero n place = checks_by rules (subject_at form s ero n place) place

-- Those of the subobjects at these places, one after the other.
abbrev pub subobject_checks : Form → List ℕ → Bool → Bool → List ℕ → List Check
subobject_checks form s ero n [] = []
subobject_checks form s ero n (p ∷ ps) = checks_at form s ero n p ++ subobject_checks form s ero n ps

-- The first broken one, or `count` segments and how many of them are stray. "The walk stops at the first broken rule, even inside a subobject."
unfoldable pub walk_of : Form → List ℕ → Bool → Bool → ℕ → Verdict
walk_of form s ero n count = first_broken (subobject_checks form s ero n (places_of s)) (carrying_both count (stray_in form s ero (places_of s)))
