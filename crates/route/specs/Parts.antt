-- Parts of the judgement. `session_by` says in which session `judge_parts` and `route_call::judge_plain` judge, which the border's calls hand their sessions to; no promise
-- rests on the others: contracts of inner functions cite them, and proofs put them together to Routes.
use Rattle.std.specs.Prelude.{ℕ, Bool, false, Option, None, Result, Ok, Err}
use Rattle.session.specs.declared.Session.{Session}
use Rattle.answers.specs.declared.verdict.Verdict.{Verdict}
use Rattle.answers.specs.declared.refusal.Refusal.{Refusal}
use Rattle.answers.specs.Verdicts.{carrying_both, refusal_of}
use Rattle.subobject.specs.Segments.{no_segment}
use Rattle.subobject_strays.specs.Strays.{no_strays}
use Rattle.route.specs.Picked.{Picked}
use Rattle.route.specs.declared.picking.Picked as code

-- What comes with a refusal.
abbrev pub nothing_with : Verdict → Picked
nothing_with v = record { verdict = v; segment = no_segment; strays = no_strays }

-- A result as such an answer.
abbrev pub picked_of : Result code.Picked Refusal → Picked
picked_of (Ok p) = record { verdict = carrying_both p.counts.count p.counts.stray; segment = p.segment; strays = p.strays }
picked_of (Err e) = nothing_with (refusal_of e)

-- A session of what judging looks at: agreed or not, N, and the limit.
abbrev pub session_by : Bool → Bool → Option ℕ → Session
session_by agreed n limit = record { agreed = agreed; n = n; limit = limit; a = false; r = false; v = None; m = None }
