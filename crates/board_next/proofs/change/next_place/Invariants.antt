-- The invariant: no place before number i is wanted. A way out is a wanted place, or the end of the places.
use Rattle.board_record.specs.Lent.{table_lent}
use Rattle.board_next.proofs.Along.{Along}
use Rattle.board_next.proofs.change.next_place.Given as goal

abbrev pub invariant-loop-i : goal.invariant-loop-i
invariant-loop-i l = Along (table_lent l.b) l.b.order.now l.s l.w l.i
