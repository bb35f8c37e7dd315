use lib.Dec.{eqb}
use lib.ListN.{get_or}
use Rattle.board_order_moves.proofs.Finds.{Looked}
use Rattle.board_order_moves.proofs.finding.found_in.Given as goal

abbrev pub invariant-loop-i : goal.invariant-loop-i
invariant-loop-i l = Looked (λ j. eqb (get_or l.order j 0) l.number) l.i l.first
