-- The call of report answers by the first broken check of its list: 28, or the report under the limit for this route, by its own list. Assumes nothing.
use Prim.Native.Nat.{ℕ}
use native.Mathlib.Omega.{arith}
use mathlib.Core.Path.{◌≡◌, refl, ◌∙◌, ap}
use mathlib.Core.Bool.{Bool, true, false, cond}
use mathlib.Core.List.{List}
use lib.ListN.{length}
use Rattle.answers.specs.declared.verdict.Verdict.{Verdict}
use Rattle.answers.specs.Numbers.{not_usable}
use Rattle.answers.specs.Verdicts.{refused_by}
use Rattle.session.specs.declared.Sessions.{Sessions}
use Rattle.session.specs.Sessions.{session_under}
use Rattle.forms.specs.Forms.{form_of}
use Rattle.frame.proofs.Checks.{ByFirst, by_first}
use Rattle.route.specs.Routes.{acceptance_of}
use Rattle.route_limit.specs.FirstOff.{session_for}
use Rattle.route_call.specs.Called.{rule28}
use Rattle.board_record.specs.declared.record.Board.{Board}
use Rattle.board_record.specs.Record.{table_in}
use Rattle.board_rules.specs.OnRecord.{is_record, Result, result_of, report_on}
use Rattle.board_rules.proofs.Checks.{report_numbered, report_checked_on}
use Rattle.board_report_call.specs.Reported.{report_for_on}
use Rattle.board_report_call.specs.Checks.{report_for_checks}

chosen : (t : Bool) (x y : Result) → (cond t x y).verdict ≡ cond t x.verdict y.verdict
chosen true x y = refl
chosen false x y = refl

pub report_call_by_first : (b : Board) (store : List ℕ) (k : ℕ) (octets : List ℕ) (sessions : Sessions) (pst : ℕ) (addresses : List ℕ)
    → ByFirst (report_for_on b store k octets sessions pst addresses).verdict (report_for_checks (is_record b (length store)) (table_in b) k octets sessions pst addresses)
    (acceptance_of (form_of pst) octets true)
unfolding report_for_on
report_call_by_first b store k octets sessions pst addresses =
    let under = session_for octets true (session_under sessions pst) addresses in
    by_first _ (report_for_checks (is_record b (length store)) (table_in b) k octets sessions pst addresses) (acceptance_of (form_of pst) octets true)
    (omega arith, report_numbered (table_in b) k octets under pst (is_record b (length store))) refl
    (chosen (rule28 addresses) (result_of (refused_by not_usable 0) b) (report_on b store k octets under pst)
    ∙ ap (λ (v : Verdict). cond (rule28 addresses) (refused_by not_usable 0) v) (report_checked_on b store k octets under pst))
