-- 17 and 24 refuse and leave all as it was. Else what the sweep leaves is the compacted table, the order is that table's without the emptied places, the largest versions are worked out anew, and the
-- three are the record of the answer.
use native.Mathlib.Omega.{arith}
use mathlib.Core.Path.{◌≡◌, ap, ◌∙◌}
use Rattle.std.proofs.lemmas.Grind.{common_steps}
use Rattle.answers.specs.declared.refusal.Refusal.{Refusal}
use Rattle.answers.specs.declared.verdict.Verdict.{Verdict}
use Rattle.answers.specs.Verdicts.{refusal_of, passed_of}
use Rattle.board_record.specs.Lent.{board_lent}
use Rattle.board_record.specs.Record.{table_in}
use Rattle.board_rules.specs.OnRecord.{result_of}
use Rattle.board_compact.specs.Parts.{board_in}
use Rattle.board_compact.proofs.Answers.{compact_none, compact_board, compact_refusal, compact_done, compact_loose_at, compact_still}
use Rattle.board_sweep.proofs.Sweeps.{compacted_is}
use Rattle.board_compact.proofs.compacting.compact.Goals as goal

pub returns-then-not-is_board-clause-answer : goal.returns-then-not-is_board-clause-answer
returns-then-not-is_board-clause-answer c =
    let b = board_in c.args.b.now in
    ap (λ (e : Refusal). result_of (refusal_of e) b) c.into.ensures
    ∙ compact_none b (board_lent c.lent.result) c.lent.ensures.lent c.args.store.now c.args.c c.if-not-is_board.ensures.board

pub returns-in_err-compact_rules-clause-answer : goal.returns-in_err-compact_rules-clause-answer
returns-in_err-compact_rules-clause-answer c =
    let b = board_in c.args.b.now in
    let r = c.in_err-compact_rules.field-0.0 in
    let e : passed_of c.from_residual.result ≡ refusal_of r = grind (arith, common_steps) in
    ap (λ (v : Verdict). result_of v b) e
    ∙ compact_refusal b (board_lent c.lent.result) c.lent.ensures.lent c.args.store.now c.args.c c.if-not-is_board.ensures.board r c.in_err-compact_rules.ensures.first

pub drop_empty-requires : goal.drop_empty-requires
drop_empty-requires c =
    let b = board_in c.args.b.now in
    let h = compact_board b (board_lent c.lent.result) c.lent.ensures.lent c.args.store.now c.args.c c.if-not-is_board.ensures.board in
    let sweep = c.sweep-dropped in (
      compact_loose_at (table_in b) c.args.c b.order _ h.0 h.1
          (compacted_is b.keys b.versions b.lengths b.version b.floor b.forms c.args.c _ _ _ sweep.ensures.keys sweep.ensures.versions c.max-b.ensures),
      λ e. compact_still (table_in b) b.order _ _ _ h.0 h.1 (sweep.ensures.stays e).0 (sweep.ensures.stays e).1,
    )

pub work_out-requires : goal.work_out-requires
work_out-requires c =
    let b = board_in c.args.b.now in
    let h = compact_board b (board_lent c.lent.result) c.lent.ensures.lent c.args.store.now c.args.c c.if-not-is_board.ensures.board in
    λ e. rw (c.sweep-dropped.ensures.stays e).1 h.2

pub returns-clause-answer : goal.returns-clause-answer
returns-clause-answer c =
    let b = board_in c.args.b.now in
    let sweep = c.sweep-dropped in
    compact_done b (board_lent c.lent.result) c.lent.ensures.lent c.args.store.now c.args.c c.if-not-is_board.ensures.board _ _ _ c.in_ok-compact_rules.ensures.first
    (compacted_is b.keys b.versions b.lengths b.version b.floor b.forms c.args.c _ _ _ sweep.ensures.keys sweep.ensures.versions c.max-b.ensures)
    c.drop_empty.ensures.order c.work_out.ensures.tops
