-- An answer of the calls below, told as a verdict's record and a board. Assumes nothing.
use Prim.Native.Nat.{ℕ}
use mathlib.Core.Path.{◌≡◌, ap, ◌∙◌}
use mathlib.Core.List.{List}
use Rattle.answers.specs.declared.verdict.Verdict.{Verdict}
use Rattle.session.specs.declared.Sessions.{Sessions}
use Rattle.board_record.specs.declared.record.Board.{Board}
use Rattle.board_rules.specs.OnRecord.{Result, result_of}
use Rattle.border_records.specs.declared.verdict.VerdictRecord.{VerdictRecord}
use Rattle.border_session.specs.declared.SessionRecord.{SessionRecord}
use Rattle.border_records.specs.Records.{verdict_out}
use Rattle.border_session.specs.Agreed.{sessions_in}

pub told : (v : Verdict) (r : VerdictRecord) (after : Board) (a : Result) → result_of v after ≡ a → r ≡ verdict_out v
    → (r ≡ verdict_out a.verdict) × (after ≡ a.board)
told v r after a e o = (o ∙ ap (λ (x : Result). verdict_out x.verdict) e, ap (λ (x : Result). x.board) e)

-- The same where answer and store hang on the sessions that came in as a record.
pub told_under : (answer : Sessions → Result) (store : Sessions → List ℕ) (s : Sessions) (x : SessionRecord) (v : Verdict) (r : VerdictRecord) (after : Board)
    (octets : List ℕ) → s ≡ sessions_in x → result_of v after ≡ answer s → octets ≡ store s → r ≡ verdict_out v
    → (r ≡ verdict_out (answer (sessions_in x)).verdict) × (after ≡ (answer (sessions_in x)).board) × (octets ≡ store (sessions_in x))
told_under answer store s x v r after octets f e g o =
    let t = told v r after (answer (sessions_in x)) (e ∙ ap answer f) o in
    (t.0, t.1, g ∙ ap store f)
