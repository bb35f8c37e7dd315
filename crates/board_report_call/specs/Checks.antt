-- The checks of a report with the head end's addresses, in their order: "28 .. before all others" (document 02, C-15), then those of a report. No contract cites the list: proofs/Checks shows
-- that the call answers by its first broken check. `whole` says that 17 isn't broken.
use Rattle.std.specs.Prelude.{ℕ, Bool, true, List, ◌∷◌}
use Rattle.answers.specs.Numbers.{not_usable}
use Rattle.session.specs.declared.Sessions.{Sessions}
use Rattle.session.specs.Sessions.{session_under}
use Rattle.frame.specs.Checks.{Check, check}
use Rattle.route_limit.specs.FirstOff.{session_for}
use Rattle.route_call.specs.Called.{rule28}
use Rattle.board_record.specs.Table.{Table}
use Rattle.board_rules.specs.Checks.{report_checks}

abbrev pub report_for_checks : Bool → Table → ℕ → List ℕ → Sessions → ℕ → List ℕ → List Check
report_for_checks whole b k octets sessions pst addresses =
    check not_usable 0 (rule28 addresses) ∷ report_checks whole b k octets (session_for octets true (session_under sessions pst) addresses) pst
