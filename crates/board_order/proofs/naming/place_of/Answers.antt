use native.Mathlib.Omega.{arith}
use Rattle.board_order.proofs.Names.{named_none, named_some}
use Rattle.board_order.proofs.naming.place_of.Goals as goal
use Rattle.board_order.proofs.naming.place_of.Goals.{then-number-eq0-via-then-number-eq0, then-number-eq0-via-else-number-eq0+then-number-gt-PLACES}

pub returns-then-number-eq0-clause-none : goal.returns-then-number-eq0-clause-none
returns-then-number-eq0-clause-none c = elim c.then-number-eq0.branch [
  | then-number-eq0-via-then-number-eq0 w ↦ omega (arith, named_none)
  | then-number-eq0-via-else-number-eq0+then-number-gt-PLACES w ↦ omega (arith, named_some)
]

pub returns-clause-place : goal.returns-clause-place
returns-clause-place c = (omega (arith, named_some), omega arith)
