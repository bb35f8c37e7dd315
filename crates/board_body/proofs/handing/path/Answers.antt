use native.Mathlib.Omega.{arith}
use mathlib.Core.Path.{◌≡◌, ap, ◌∙◌}
use mathlib.Core.Bool.{true}
use Rattle.std.proofs.Common.{is_some}
use Rattle.std.proofs.lemmas.Grind.{common_steps}
use Rattle.answers.specs.Verdicts.{refusal_of, passed_of}
use Rattle.board_rules.specs.Body.{body_rules}
use Rattle.board_record.specs.Lent.{board_lent}
use Rattle.board_body.proofs.Bodies.{number_none, number_said, path_room}
use Rattle.board_body.proofs.handing.path.Goals as goal

pub returns-then-not-is_board-clause-number : goal.returns-then-not-is_board-clause-number
returns-then-not-is_board-clause-number c =
    ap refusal_of c.into.ensures ∙ number_none (board_lent c.args.b) c.args.store.now c.args.key c.if-not-is_board.ensures.board

pub returns-in_err-at-clause-number : goal.returns-in_err-at-clause-number
returns-in_err-at-clause-number c =
    let e : passed_of c.from_residual.result ≡ body_rules true c.args.key (is_some c.path_place.result) = grind (arith, common_steps) in
    e ∙ number_said (board_lent c.args.b) c.args.store.now c.args.key _ c.if-not-is_board.ensures.board c.path_place.ensures.has

pub returns-clause-number : goal.returns-clause-number
returns-clause-number c =
    c.in_ok-at.ensures.first ∙ number_said (board_lent c.args.b) c.args.store.now c.args.key _ c.if-not-is_board.ensures.board c.path_place.ensures.has

pub returns-clause-inside : goal.returns-clause-inside
returns-clause-inside c =
    let l = rw c.in_ok-at.ensures.place at c.path_place.ensures.place in
    rw c.path_at.ensures.path (l.0, path_room (board_lent c.args.b) c.args.store.now c.args.key c.in_ok-at.at c.if-not-is_board.ensures.board l.0)
