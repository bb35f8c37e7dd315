-- Each way out is one law of the record (`report_none`, `report_refusal`, `report_done`); every need of a store is met by what the passed rules say (`report_passed`) and by what an accepted
-- route has (`report_fits`); the record is what `enter` leaves, the store what `lay` does.
use native.Mathlib.Omega.{arith}
use mathlib.Core.Path.{◌≡◌, refl, ap, ◌∙◌}
use mathlib.Core.Bool.{true}
use Rattle.std.proofs.lemmas.Grind.{common_steps}
use Rattle.answers.specs.declared.refusal.Refusal.{Refusal}
use Rattle.answers.specs.declared.verdict.Verdict.{Verdict}
use Rattle.answers.specs.Verdicts.{refusal_of, verdict_of}
use Rattle.board_record.specs.Lent.{board_lent}
use Rattle.board_record.specs.Record.{table_in}
use Rattle.board_rules.specs.OnRecord.{result_of}
use Rattle.board_rules.proofs.Told.{board_proper}
use Rattle.board_rules.proofs.OnRecord.{record_is, tidy_order, tidy_tops}
use Rattle.board_entry.specs.Parts.{board_in}
use Rattle.board_report.proofs.Reports.{report_none, report_board, report_refusal, report_passed, report_fits, report_lies, report_done}
use Rattle.board_report.proofs.reporting.report.Goals as goal

pub returns-then-not-is_board-clause-answer : goal.returns-then-not-is_board-clause-answer
returns-then-not-is_board-clause-answer c =
    let b = board_in c.args.b.now in
    let w = report_none (board_in c.args.b.now) (board_lent c.lent-lent.result) c.lent-lent.ensures.lent c.args.store.now c.args.key c.args.octets.now c.args.session c.args.pst
    c.if-not-is_board.ensures.board in
    (ap (λ (e : Refusal). result_of (refusal_of e) b) c.into.ensures ∙ w.0, w.1)

pub target-place-requires : goal.target-place-requires
target-place-requires c =
    let l = board_lent c.lent-lent.result in
    board_proper (table_in l) _ (record_is l _ true c.if-not-is_board.ensures.board refl).0

pub returns-in_err-at-clause-answer : goal.returns-in_err-at-clause-answer
returns-in_err-at-clause-answer c =
    let b = board_in c.args.b.now in
    let r = c.in_err-at.field-0.0 in
    let e : verdict_of c.from_residual.result ≡ refusal_of r = grind (arith, common_steps) in
    let w = report_refusal (board_in c.args.b.now) (board_lent c.lent-lent.result) c.lent-lent.ensures.lent c.args.store.now c.args.key c.args.octets.now c.args.session c.args.pst
    c.if-not-is_board.ensures.board c.saturating_sub-n.result c.saturating_sub-n.ensures c.judge-route.result c.judge-route.ensures.judged c.target-place.result c.target-place.ensures.target
    c.target-place.ensures.within r c.in_err-at.ensures.first in
    (ap (λ (v : Verdict). result_of v b) e ∙ w.0, w.1)

pub overflow_cast-key : goal.overflow_cast-key
overflow_cast-key c =
    let g = report_passed (board_in c.args.b.now) (board_lent c.lent-lent.result) c.lent-lent.ensures.lent c.args.store.now c.args.key c.args.octets.now c.args.session c.args.pst
    c.if-not-is_board.ensures.board c.saturating_sub-n.result c.saturating_sub-n.ensures c.judge-route.result c.judge-route.ensures.judged c.target-place.result c.target-place.ensures.target
    c.target-place.ensures.within c.in_ok-at.at c.in_ok-at.ensures.place c.in_ok-at.counts c.in_ok-at.ensures.first in
    omega (arith, g.key)

pub overflow_cast-n : goal.overflow_cast-n
overflow_cast-n c =
    let g = report_passed (board_in c.args.b.now) (board_lent c.lent-lent.result) c.lent-lent.ensures.lent c.args.store.now c.args.key c.args.octets.now c.args.session c.args.pst
    c.if-not-is_board.ensures.board c.saturating_sub-n.result c.saturating_sub-n.ensures c.judge-route.result c.judge-route.ensures.judged c.target-place.result c.target-place.ensures.target
    c.target-place.ensures.within c.in_ok-at.at c.in_ok-at.ensures.place c.in_ok-at.counts c.in_ok-at.ensures.first in
    omega (arith, g.size)

pub overflow_cast-pst : goal.overflow_cast-pst
overflow_cast-pst c =
    let g = report_fits (board_in c.args.b.now) (board_lent c.lent-lent.result) c.lent-lent.ensures.lent c.args.store.now c.args.key c.args.octets.now c.args.session c.args.pst
    c.if-not-is_board.ensures.board c.saturating_sub-n.result c.saturating_sub-n.ensures c.judge-route.result c.judge-route.ensures.judged c.target-place.result c.target-place.ensures.target
    c.target-place.ensures.within c.in_ok-at.at c.in_ok-at.ensures.place c.in_ok-at.counts c.in_ok-at.ensures.first in
    omega (arith, g.1)

pub enter-requires : goal.enter-requires
enter-requires c =
    let b = board_in c.args.b.now in
    let h = report_board (board_in c.args.b.now) (board_lent c.lent-lent.result) c.lent-lent.ensures.lent c.args.store.now c.args.key c.args.octets.now c.args.session c.args.pst
    c.if-not-is_board.ensures.board in
    let g = report_passed (board_in c.args.b.now) (board_lent c.lent-lent.result) c.lent-lent.ensures.lent c.args.store.now c.args.key c.args.octets.now c.args.session c.args.pst
    c.if-not-is_board.ensures.board c.saturating_sub-n.result c.saturating_sub-n.ensures c.judge-route.result c.judge-route.ensures.judged c.target-place.result c.target-place.ensures.target
    c.target-place.ensures.within c.in_ok-at.at c.in_ok-at.ensures.place c.in_ok-at.counts c.in_ok-at.ensures.first in
    (board_proper (table_in b) _ h.0, tidy_order b h.1, tidy_tops b h.1, g.place, λ e. omega (arith, g.low))

pub slice_bounds-lay-count : goal.slice_bounds-lay-count
slice_bounds-lay-count c =
    let g = report_fits (board_in c.args.b.now) (board_lent c.lent-lent.result) c.lent-lent.ensures.lent c.args.store.now c.args.key c.args.octets.now c.args.session c.args.pst
    c.if-not-is_board.ensures.board c.saturating_sub-n.result c.saturating_sub-n.ensures c.judge-route.result c.judge-route.ensures.judged c.target-place.result c.target-place.ensures.target
    c.target-place.ensures.within c.in_ok-at.at c.in_ok-at.ensures.place c.in_ok-at.counts c.in_ok-at.ensures.first in
    omega (arith, g.0)

pub slice_bounds-lay-start : goal.slice_bounds-lay-start
slice_bounds-lay-start c =
    let g = report_fits (board_in c.args.b.now) (board_lent c.lent-lent.result) c.lent-lent.ensures.lent c.args.store.now c.args.key c.args.octets.now c.args.session c.args.pst
    c.if-not-is_board.ensures.board c.saturating_sub-n.result c.saturating_sub-n.ensures c.judge-route.result c.judge-route.ensures.judged c.target-place.result c.target-place.ensures.target
    c.target-place.ensures.within c.in_ok-at.at c.in_ok-at.ensures.place c.in_ok-at.counts c.in_ok-at.ensures.first in
    omega (arith, g.0)

pub lay-requires : goal.lay-requires
lay-requires c =
    report_lies (board_in c.args.b.now) (board_lent c.lent-lent.result) c.lent-lent.ensures.lent c.args.store.now c.args.key c.args.octets.now c.args.session c.args.pst
    c.if-not-is_board.ensures.board c.saturating_sub-n.result c.saturating_sub-n.ensures c.judge-route.result c.judge-route.ensures.judged c.target-place.result c.target-place.ensures.target
    c.target-place.ensures.within c.in_ok-at.at c.in_ok-at.ensures.place c.in_ok-at.counts c.in_ok-at.ensures.first _ c.start_of.ensures.start

pub returns-clause-answer : goal.returns-clause-answer
returns-clause-answer c =
    report_done (board_in c.args.b.now) (board_lent c.lent-lent.result) c.lent-lent.ensures.lent c.args.store.now c.args.key c.args.octets.now c.args.session c.args.pst
    c.if-not-is_board.ensures.board c.saturating_sub-n.result c.saturating_sub-n.ensures c.judge-route.result c.judge-route.ensures.judged c.target-place.result c.target-place.ensures.target
    c.target-place.ensures.within c.in_ok-at.at c.in_ok-at.ensures.place c.in_ok-at.counts c.in_ok-at.ensures.first
    _ _ _ _ _ _ c.floor_after-raised.ensures.floor c.enter.ensures.table c.enter.ensures.rows.0 c.enter.ensures.rows.1 c.start_of.ensures.start c.lay.ensures.laid
