use native.Mathlib.Omega.{arith}
use mathlib.Core.Path.{◌≡◌, ◌∙◌}
use Rattle.std.proofs.Common.{Err}
use Rattle.std.proofs.lemmas.Grind.{common_steps}
use Rattle.board_report_by_value.specs.ByValue.{counted_back_of}
use Rattle.board_report_by_value.proofs.Laws.{report_back, report_kept}
use Rattle.board_report_by_value.proofs.report.Goals as goal

pub returns : goal.returns
returns c =
    let a = c.args in
    let t = c.in_ok-counts.ensures in
    record { answer = report_back a.b a.store.now _ a.key a.octets.now a.sessions a.pst a.addresses.now _ t.answer.0; stored = t.answer.1 }

pub returns-in_err-counts : goal.returns-in_err-counts
returns-in_err-counts c =
    let a = c.args in
    let t = c.in_err-counts.ensures in
    let r = c.in_err-counts.field-0.0 in
    let e : counted_back_of a.b c.from_residual.result ≡ counted_back_of a.b (Err r) = grind (arith, common_steps) in
    record { answer = e ∙ report_kept a.b a.store.now _ a.key a.octets.now a.sessions a.pst a.addresses.now r t.answer.0; stored = t.answer.1 }
