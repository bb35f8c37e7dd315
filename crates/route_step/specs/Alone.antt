-- A step through an SRv6 route by itself, in document 01's own numbers. No contract cites it: that steps through SRv6's routes are what document 01 alone says rests on it,
-- and proofs/Alone shows that a step under every setup type but 1 computes to it. The parts of a subobject stand in route/specs/Alone.
use Rattle.std.specs.Prelude.{ℕ, ◌+◌, ◌-◌, List, ◌∷◌, Bool, true, false, cond, not, eqb, length}
use Rattle.answers.specs.declared.verdict.Verdict.{Verdict}
use Rattle.answers.specs.Verdicts.{accepted_with}
use Rattle.octets.specs.Octets.{octet_of}
use Rattle.subobject.specs.Segments.{no_segment}
use Rattle.frame.specs.Checks.{check, first_broken}
use Rattle.frame.specs.Frames.{fits_in}
use Rattle.route.specs.Alone.{head_alone, one_checks, one_segment}
use Rattle.route_step_tests.specs.Places.{outside}
use Rattle.route_step.specs.Stepped.{Stepped}

-- 15, 4 and 14, then 8, 9, 7 and 11 of the subobject there. 10 hangs on a session and is not asked, as in an RRO.
unfoldable pub verdict_alone : List ℕ → Bool → ℕ → Verdict
verdict_alone s ero at =
    first_broken
    (check 15 0 (outside s at)
    ∷ check 4 0 (not (fits_in (octet_of s (at + 1)) (length s - at)))
    ∷ check 14 0 (not (eqb (head_alone s ero at).kind 40))
    ∷ one_checks (head_alone s ero at) s false true at)
    (accepted_with 0)

unfoldable pub step_alone : List ℕ → Bool → ℕ → Stepped
step_alone s ero at =
    record {
      verdict = verdict_alone s ero at;
      segment = cond (eqb (verdict_alone s ero at).number 0) (one_segment (head_alone s ero at) s at) no_segment;
      next = cond (eqb (verdict_alone s ero at).number 0) (at + octet_of s (at + 1)) at;
    }
