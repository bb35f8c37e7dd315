-- A refusal that a call hands on. Assumes nothing.
use mathlib.Core.Path.{◌≡◌, ap}
use Rattle.std.proofs.Common.{Result, Ok, Err}
use Rattle.std.specs.Result.{IsErrAnd}
use Rattle.answers.specs.declared.refusal.Refusal.{Refusal}
use Rattle.answers.specs.declared.verdict.Verdict.{Verdict}
use Rattle.answers.specs.Verdicts.{refusal_of, answer_of}

-- It is the same by the verdict of each.
pub handed_on : {A : Type 0} (f : A → Verdict) (r : Result A Refusal) (e : Refusal) → IsErrAnd r (λ x. x ≡ e) → answer_of f r ≡ refusal_of e
handed_on f (Ok a) e h = absurd h
handed_on f (Err x) e h = ap refusal_of h
