-- The loop sifts the order (`Sifting`): a number that names no place, one of an empty place, one that is kept.
use Rattle.board_record.specs.Table.{table_of}
use Rattle.board_order_drops.proofs.Drops.{Sifting}
use Rattle.board_order_drops.proofs.dropping.drop_empty.Given as goal

abbrev pub invariant-loop-i : goal.invariant-loop-i
invariant-loop-i l = Sifting (table_of l.keys l.versions l.lengths l.version l.floor l.forms) l.initial.order l.order l.kept l.i
