use native.Mathlib.Omega.{arith}
use mathlib.Core.Path.{◌≡◌, ap, ◌∙◌}
use Rattle.std.proofs.lemmas.Grind.{common_steps}
use Rattle.answers.specs.Verdicts.{refusal_of}
use Rattle.board_record.specs.Lent.{board_lent}
use Rattle.board_rules.specs.Moved.{told_of}
use Rattle.board_look.proofs.Looks.{topped, moved_none, moved_refusal, moved_said}
use Rattle.board_look.proofs.looking.moved.Goals as goal

pub returns-then-not-is_board : goal.returns-then-not-is_board
returns-then-not-is_board c =
    record { moved = ap refusal_of c.into.ensures ∙ moved_none (board_lent c.args.b) c.args.store.now c.args.from c.args.to c.args.v c.if-not-is_board.ensures.board }

pub any_moved-requires : goal.any_moved-requires
any_moved-requires c = topped (board_lent c.args.b) _ c.if-not-is_board.ensures.board

pub returns : goal.returns
returns c =
    record { moved = moved_said (board_lent c.args.b) c.args.store.now c.args.from c.args.to c.args.v _ c.if-not-is_board.ensures.board c.in_ok-moved_rules.ensures.first c.any_moved.ensures.moved }

pub returns-in_err-moved_rules : goal.returns-in_err-moved_rules
returns-in_err-moved_rules c =
    let r = c.in_err-moved_rules.field-0.0 in
    let e : told_of c.from_residual.result ≡ refusal_of r = grind (arith, common_steps) in
    record { moved = e ∙ moved_refusal (board_lent c.args.b) c.args.store.now c.args.from c.args.to c.args.v r c.if-not-is_board.ensures.board c.in_err-moved_rules.ensures.first }
