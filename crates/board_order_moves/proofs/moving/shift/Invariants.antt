use Rattle.board_order_moves.proofs.Moves.{Shifting}
use Rattle.board_order_moves.proofs.moving.shift.Given as goal

abbrev pub invariant-loop-i : goal.invariant-loop-i
invariant-loop-i l = Shifting l.initial.order l.order l.from l.i
