-- Report with the head end's addresses: "28 .. address list not a multiple of 16 octets, before all others" (document 02, C-15), then 17, 18, the route
-- checks in the session of the form that the PST names (C-16), under the limit for this route, 19, 20, 21.
use Rattle.std.specs.Prelude.{ℕ, List, true, cond}
use Rattle.answers.specs.Numbers.{not_usable}
use Rattle.answers.specs.Verdicts.{refused_by}
use Rattle.session.specs.declared.Sessions.{Sessions}
use Rattle.session.specs.Sessions.{session_under}
use Rattle.route_limit.specs.FirstOff.{session_for}
use Rattle.route_call.specs.Called.{rule28}
use Rattle.board_record.specs.declared.record.Board.{Board}
use Rattle.board_record.specs.Table.{Table}
use Rattle.board_rules.specs.Rules.{Outcome, outcome_of}
use Rattle.board_rules.specs.Report.{report_answer, report_store}
use Rattle.board_rules.specs.OnRecord.{Result, result_of, report_on, report_store_on}

unfoldable pub report_for : Table → List ℕ → ℕ → List ℕ → Sessions → ℕ → List ℕ → Outcome
report_for b store k octets sessions pst addresses =
    cond (rule28 addresses) (outcome_of (refused_by not_usable 0) b) (report_answer b store k octets (session_for octets true (session_under sessions pst) addresses) pst)

-- the store after it; after 28 it is as it was
unfoldable pub report_store_for : Table → List ℕ → ℕ → List ℕ → Sessions → ℕ → List ℕ → List ℕ
report_store_for b store k octets sessions pst addresses = cond (rule28 addresses) store (report_store b store k octets (session_for octets true (session_under sessions pst) addresses) pst)

-- the same on the record: 28 goes before 17, so before the record is looked at
unfoldable pub report_for_on : Board → List ℕ → ℕ → List ℕ → Sessions → ℕ → List ℕ → Result
report_for_on b store k octets sessions pst addresses =
    cond (rule28 addresses) (result_of (refused_by not_usable 0) b) (report_on b store k octets (session_for octets true (session_under sessions pst) addresses) pst)

unfoldable pub report_store_for_on : Board → List ℕ → ℕ → List ℕ → Sessions → ℕ → List ℕ → List ℕ
report_store_for_on b store k octets sessions pst addresses = cond (rule28 addresses) store (report_store_on b store k octets (session_for octets true (session_under sessions pst) addresses) pst)
