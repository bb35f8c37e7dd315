use native.Mathlib.Omega.{arith}
use Rattle.board_order_moves.proofs.Moves.{shifting_none, shifting_more, shift_done}
use Rattle.board_order_moves.proofs.moving.shift.Goals as goal

pub loop-i-init : goal.loop-i-init
loop-i-init c = shifting_none _ _ c.told-order

pub bounds-order-i : goal.bounds-order-i
bounds-order-i c = omega (arith, c.loop-i-test.true, c.requires.1, c.loop-i.invariant.long)

pub bounds-order-i-in-loop-i : goal.bounds-order-i-in-loop-i
bounds-order-i-in-loop-i c = omega (arith, c.loop-i-test.true, c.requires.1, c.loop-i.invariant.long)

pub loop-i-preserved : goal.loop-i-preserved
loop-i-preserved c = shifting_more _ _ _ _ c.loop-i.invariant c.loop-i.auto.i (omega (arith, c.loop-i-test.true, c.requires.1))

pub returns : goal.returns
returns c = record { shifted = shift_done _ _ _ _ c.requires.0 _ _ c.requires.1 (c.loop-i.auto.i-end c.requires.0) c.loop-i-test.false c.loop-i.invariant }
