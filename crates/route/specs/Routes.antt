-- The judgement of a route, and its segments (document 01, "The route object").
-- Rules 4, 5, 6 and 14 stand in frame/specs/Frames, 8, 9, 7, 10, 11, 29 and 30 in subobject/specs/Rules, their checks in route_walk/specs/Walk, 13 and 12 in
-- route_rules/specs/SessionRules, all checks in their order and the answer that they give, `checks_of` and `judge_as`, in route_ordered/specs/Judged.
use Rattle.std.specs.Prelude.{ℕ, List, [], ◌∷◌, ◌++◌, Bool, cond, not, get_or, eqb, ltb}
use Rattle.forms.specs.declared.Form.{Form}
use Rattle.forms.specs.Forms.{form_of}
use Rattle.answers.specs.declared.verdict.Verdict.{Verdict}
use Rattle.answers.specs.Numbers.{no_such_segment}
use Rattle.session.specs.declared.Session.{Session}
use Rattle.subobject.specs.Segments.{segment_at, no_segment}
use Rattle.subobject_strays.specs.Strays.{strays_at, no_strays}
use Rattle.frame.specs.Checks.{check, first_broken}
use Rattle.frame.specs.Frames.{places_of}
unfoldable pub use Rattle.route_rules.specs.SessionRules.{rule13, rule12}
pub use Rattle.route_rules.specs.SessionRules.{past, rule12_place, last_checks}
unfoldable pub use Rattle.route_ordered.specs.Judged.{judge_as}
pub use Rattle.route_ordered.specs.Judged.{whole_checks, checks_of, count_of, stray_count, acceptance_of}
use Rattle.route.specs.Picked.{Picked}

-- a segment ----------------------------------------------------------------------------------------------------

-- 15: "no such segment".
unfoldable pub rule15 : ℕ → ℕ → Bool
rule15 i count = not (ltb i count)

-- "The same checks, then 15."
unfoldable pub pick_of : Form → List ℕ → Bool → Session → ℕ → ℕ → Verdict
pick_of form s ero session pst i =
    first_broken (checks_of form s ero session pst ++ check no_such_segment 0 (rule15 i (count_of s)) ∷ []) (acceptance_of form s ero)

-- Segment i: the verdict, with what the octets of subobject i say, and what is set in them that ought to be 0. "Every refusal returns its number and place and no other content."
unfoldable pub segment_as : Form → List ℕ → Bool → Session → ℕ → ℕ → Picked
segment_as form s ero session pst i =
    record {
      verdict = pick_of form s ero session pst i;
      segment = cond (eqb (pick_of form s ero session pst i).number 0) (segment_at form s ero (get_or (places_of s) i 0)) no_segment;
      strays = cond (eqb (pick_of form s ero session pst i).number 0) (strays_at form s ero (get_or (places_of s) i 0)) no_strays;
    }

-- by setup type ------------------------------------------------------------------------------------------------

-- "The form that the PST names, SRv6's if it names none."
unfoldable pub judge_of : List ℕ → Bool → Session → ℕ → Verdict
judge_of s ero session pst = judge_as (form_of pst) s ero session pst

unfoldable pub segment_of : List ℕ → Bool → Session → ℕ → ℕ → Picked
segment_of s ero session pst i = segment_as (form_of pst) s ero session pst i
