-- Each way out is one law of the record (`remove_none`, `remove_refusal`, `remove_done`); the stores need that it is a board (`remove_board`) and that the key has a place.
use native.Mathlib.Omega.{arith}
use mathlib.Core.Path.{◌≡◌, ap, ◌∙◌}
use Rattle.std.proofs.lemmas.Grind.{common_steps}
use Rattle.answers.specs.declared.refusal.Refusal.{Refusal}
use Rattle.answers.specs.declared.verdict.Verdict.{Verdict}
use Rattle.answers.specs.Verdicts.{refusal_of, passed_of}
use Rattle.board_record.specs.Lent.{board_lent}
use Rattle.board_record.specs.Record.{table_in}
use Rattle.board_record.proofs.Proper.{proper_is}
use Rattle.board_record.proofs.Tops.{versions_in}
use Rattle.board_rules.specs.OnRecord.{result_of}
use Rattle.board_rules.proofs.Told.{board_proper}
use Rattle.board_rules.proofs.OnRecord.{tidy_order, tidy_tops}
use Rattle.board_remove.specs.Parts.{board_in}
use Rattle.board_remove.proofs.Answers.{remove_none, remove_board, remove_refusal, remove_done}
use Rattle.board_remove.proofs.removing.remove.Goals as goal

pub returns-then-not-is_board-clause-answer : goal.returns-then-not-is_board-clause-answer
returns-then-not-is_board-clause-answer c =
    let b = board_in c.args.b.now in
    ap (λ (e : Refusal). result_of (refusal_of e) b) c.into.ensures
    ∙ remove_none b (board_lent c.lent-lent.result) c.lent-lent.ensures.lent c.args.store.now c.args.key c.if-not-is_board.ensures.board

pub returns-in_err-at-clause-answer : goal.returns-in_err-at-clause-answer
returns-in_err-at-clause-answer c =
    let b = board_in c.args.b.now in
    let r = c.in_err-at.field-0.0 in
    let e : passed_of c.from_residual.result ≡ refusal_of r = grind (arith, common_steps) in
    ap (λ (v : Verdict). result_of v b) e
    ∙ remove_refusal b (board_lent c.lent-lent.result) c.lent-lent.ensures.lent c.args.store.now c.args.key c.if-not-is_board.ensures.board _
    c.path_place.ensures.has r c.in_err-at.ensures.first

pub overflow_add-next : goal.overflow_add-next
overflow_add-next c =
    let b = board_in c.args.b.now in
    let h = remove_board b (board_lent c.lent-lent.result) c.lent-lent.ensures.lent c.args.store.now c.args.key c.if-not-is_board.ensures.board in
    omega (arith, (proper_is (table_in b) (board_proper (table_in b) _ h.0)).version_in)

pub move_last-requires : goal.move_last-requires
move_last-requires c =
    let b = board_in c.args.b.now in
    let h = remove_board b (board_lent c.lent-lent.result) c.lent-lent.ensures.lent c.args.store.now c.args.key c.if-not-is_board.ensures.board in
    let l = rw c.in_ok-at.ensures.place at c.path_place.ensures.place in
    (board_proper (table_in b) _ h.0, tidy_order b h.1, l.0)

pub raise-requires : goal.raise-requires
raise-requires c =
    let b = board_in c.args.b.now in
    let h = remove_board b (board_lent c.lent-lent.result) c.lent-lent.ensures.lent c.args.store.now c.args.key c.if-not-is_board.ensures.board in
    let l = rw c.in_ok-at.ensures.place at c.path_place.ensures.place in (
      tidy_tops b h.1,
      l.0,
      λ p k. omega (arith, versions_in (table_in b) (proper_is (table_in b) (board_proper (table_in b) _ h.0)) p k),
    )

pub returns-clause-answer : goal.returns-clause-answer
returns-clause-answer c =
    let l = rw c.in_ok-at.ensures.place at c.path_place.ensures.place in
    remove_done (board_in c.args.b.now) (board_lent c.lent-lent.result) c.lent-lent.ensures.lent c.args.store.now c.args.key c.if-not-is_board.ensures.board _
    c.path_place.ensures.has c.in_ok-at.at _ _ c.in_ok-at.ensures.first l.1 l.0 c.move_last.ensures.order c.raise.ensures.raised
