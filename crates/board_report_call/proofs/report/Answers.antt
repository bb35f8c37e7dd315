-- 28, or the report under the limit for this route.
use mathlib.Core.Path.{refl, ap}
use mathlib.Core.Bool.{true, false}
use Rattle.answers.specs.declared.refusal.Refusal.{Refusal}
use Rattle.answers.specs.Verdicts.{refusal_of}
use Rattle.board_entry.specs.Parts.{board_in}
use Rattle.board_report_call.proofs.Laws.{reported_28, reported_under}
use Rattle.board_report_call.proofs.report.Goals as goal

pub returns-then-not-usable-clause-answer : goal.returns-then-not-usable-clause-answer
returns-then-not-usable-clause-answer c =
    let args = c.args in
    reported_28 (board_in args.b.now) args.store.now args.key args.octets.now args.sessions args.pst args.addresses.now {x = false} {v = refusal_of c.into.result}
    c.if-not-usable.ensures.usable refl (ap (λ (e : Refusal). refusal_of e) c.into.ensures)

pub returns-clause-answer : goal.returns-clause-answer
returns-clause-answer c =
    let args = c.args in
    let e = c.report.ensures.answer in
    reported_under (board_in args.b.now) args.store.now args.key args.octets.now args.sessions args.pst args.addresses.now {x = true}
    c.if-not-usable.ensures.usable refl c.under-own.ensures.session c.session_for-here.ensures.session e.0 e.1
