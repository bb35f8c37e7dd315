-- All checks of a route in their order, and the answer that they give (document 01, "The route object").
-- Rules 4, 5, 6 and 14 stand in frame/specs/Frames, 8, 9, 7, 10, 11, 29 and 30 in subobject/specs/Rules, their checks in route_walk/specs/Walk, 13 and 12 in
-- route_rules/specs/SessionRules.
use Rattle.std.specs.Prelude.{ℕ, List, [], ◌∷◌, ◌++◌, Bool, length}
use Rattle.forms.specs.declared.Form.{Form}
use Rattle.answers.specs.declared.verdict.Verdict.{Verdict}
use Rattle.answers.specs.Numbers.{not_agreed}
use Rattle.answers.specs.Verdicts.{carrying_both}
use Rattle.session.specs.declared.Session.{Session}
use Rattle.subobject_strays.specs.Strays.{stray_in}
use Rattle.frame.specs.Checks.{Check, check, first_broken}
use Rattle.frame.specs.Frames.{places_of, frame_checks}
use Rattle.route_walk.specs.Walk.{subobject_checks}
use Rattle.route_rules.specs.SessionRules.{rule13, last_checks}

-- "Checks on the whole, in order": 4, 5, 6, 14, 13.
abbrev pub whole_checks : Form → List ℕ → Bool → Session → ℕ → List Check
whole_checks form s ero session pst = frame_checks s ero form.kind ++ check not_agreed 0 (rule13 form session.agreed pst) ∷ []

-- the answer ---------------------------------------------------------------------------------------------------

-- "Then subobject by subobject .. Last 12."
abbrev pub later_checks : Form → List ℕ → Bool → Session → List Check
later_checks form s ero session =
    subobject_checks form s ero session.n (places_of s) ++ last_checks (places_of s) ero session.limit (length (places_of s))

-- All checks of a route in document 01's order.
abbrev pub checks_of : Form → List ℕ → Bool → Session → ℕ → List Check
checks_of form s ero session pst = whole_checks form s ero session pst ++ later_checks form s ero session

-- The number of segments is that of the subobjects.
abbrev pub count_of : List ℕ → ℕ
count_of s = length (places_of s)

-- "An accepted route carries the number of segments with anything of the kind": of those that are stray (document 02, C-18).
abbrev pub stray_count : Form → List ℕ → Bool → ℕ
stray_count form s ero = stray_in form s ero (places_of s)

abbrev pub acceptance_of : Form → List ℕ → Bool → Verdict
acceptance_of form s ero = carrying_both (count_of s) (stray_count form s ero)

-- The first broken rule with its place, or the number of segments and of the stray ones.
unfoldable pub judge_as : Form → List ℕ → Bool → Session → ℕ → Verdict
judge_as form s ero session pst = first_broken (checks_of form s ero session pst) (acceptance_of form s ero)
