-- A step through a route: the subobject at a place, looked at by itself. Its rules stand in route_step_rules/specs/StepRules.
use Rattle.std.specs.Prelude.{ℕ, zero, suc, ◌+◌, List, Bool, cond, eqb}
use Rattle.answers.specs.Verdicts.{passed_of}
use Rattle.forms.specs.declared.Form.{Form}
use Rattle.forms.specs.Forms.{form_of}
use Rattle.subobject.specs.Layout.{size_at}
use Rattle.subobject.specs.Segments.{segment_at, no_segment}
use Rattle.route_step_rules.specs.StepRules.{step_verdict}
use Rattle.route_step.specs.Stepped.{Stepped}
use Rattle.route_step.specs.declared.stepping.Stepped as code

-- What the code answers as such an answer.
abbrev pub stepped_of : code.Stepped → Stepped
stepped_of x = record { verdict = passed_of x.answer; segment = x.segment; next = x.next }

-- What is handed out: the segment there and the place behind it; after a refusal no segment, and the place asked for.
unfoldable pub step_as : Form → List ℕ → Bool → ℕ → Stepped
step_as form s ero at =
    record {
      verdict = step_verdict form s ero at;
      segment = cond (eqb (step_verdict form s ero at).number 0) (segment_at form s ero at) no_segment;
      next = cond (eqb (step_verdict form s ero at).number 0) (at + size_at s at) at;
    }

-- The form is the one that the PST names, SRv6's if it names none.
unfoldable pub step_of : List ℕ → Bool → ℕ → ℕ → Stepped
step_of s ero pst at = step_as (form_of pst) s ero at

-- Where so many steps lead from a place.
abbrev pub steps_from : List ℕ → Bool → ℕ → ℕ → ℕ → ℕ
steps_from s ero pst at zero = at
steps_from s ero pst at (suc i) = steps_from s ero pst (step_of s ero pst at).next i
