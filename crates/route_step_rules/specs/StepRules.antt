-- The rules of a step through a route: the subobject at a place, looked at by itself. The rules are document 01's, without those that hang on the whole route or
-- on a session: 5, 6, 13, 10, 12.
use Rattle.std.specs.Prelude.{ℕ, ◌-◌, List, ◌∷◌, Bool, true, not, eqb, length}
use Rattle.answers.specs.declared.verdict.Verdict.{Verdict}
use Rattle.answers.specs.Numbers.{frame_broken, sid_needed, none_of_form, no_such_segment}
use Rattle.answers.specs.Verdicts.{accepted_with}
use Rattle.forms.specs.declared.Form.{Form}
use Rattle.subobject.specs.declared.head.Head.{Head}
use Rattle.subobject.specs.Layout.{size_at, head_at}
use Rattle.subobject.specs.Rules.{subject_by, rules}
use Rattle.frame.specs.Checks.{Check, check, first_broken}
use Rattle.frame.specs.Frames.{fits_in}
use Rattle.frame.specs.RuleChecks.{checks_by, without}
use Rattle.route_step_tests.specs.Places.{outside}

-- 14, then the rules of a subobject in the order of their table but for 10 (8, 9, 7, 11, 29, 30), of the subobject at a place by the head found there. Only 10
-- looks at ERO or RRO and at N.
abbrev pub head_checks : Form → Head → List ℕ → ℕ → List Check
head_checks form h s at =
    check none_of_form 0 (not (eqb h.kind form.kind)) ∷ checks_by (without rules sid_needed) (subject_by form h s true true at) at

-- Before them 15 and 4.
abbrev pub step_checks : Form → List ℕ → Bool → ℕ → List Check
step_checks form s ero at =
    check no_such_segment 0 (outside s at)
    ∷ check frame_broken 0 (not (fits_in (size_at s at) (length s - at)))
    ∷ head_checks form (head_at form s ero at) s at

unfoldable pub head_verdict : Form → Head → List ℕ → ℕ → Verdict
head_verdict form h s at = first_broken (head_checks form h s at) (accepted_with 0)

unfoldable pub step_verdict : Form → List ℕ → Bool → ℕ → Verdict
step_verdict form s ero at = first_broken (step_checks form s ero at) (accepted_with 0)
