-- A part of the judgement. No promise rests on it: an inner function's contract cites it, and proofs put the parts together to route/specs/Routes.
use Rattle.std.specs.Prelude.{ℕ, List, Bool, cond, eqb, Option}
use Rattle.answers.specs.declared.verdict.Verdict.{Verdict}
use Rattle.frame.specs.Checks.{first_broken}
use Rattle.frame.specs.Frames.{places_of}
use Rattle.route_rules.specs.SessionRules.{last_checks}

-- 12's part: of an acceptance of more segments than the limit.
unfoldable pub limited_of : Verdict → List ℕ → Bool → Option ℕ → Verdict
limited_of w s ero limit = cond (eqb w.number 0) (first_broken (last_checks (places_of s) ero limit w.count) w) w
