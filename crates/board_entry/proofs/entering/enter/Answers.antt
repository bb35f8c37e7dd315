-- The order is what `move_last` leaves, the largest versions what `raise` does: the version is above all others, since a board's versions are at most its own.
use native.Mathlib.Omega.{arith}
use Rattle.board_record.specs.Table.{bearing}
use Rattle.board_record.proofs.Proper.{proper_is}
use Rattle.board_record.proofs.Tops.{versions_in}
use Rattle.board_entry.specs.Parts.{table_in}
use Rattle.board_entry.proofs.entering.enter.Goals as goal

pub overflow_add-next : goal.overflow_add-next
overflow_add-next c = omega (arith, (proper_is (table_in c.args.b.now) c.requires.0).version_in)

pub raise-requires : goal.raise-requires
raise-requires c =
    (c.requires.2, c.requires.3, λ p k. omega (arith, versions_in (table_in c.args.b.now) (proper_is (table_in c.args.b.now) c.requires.0) p k))

pub returns-clause-rows : goal.returns-clause-rows
returns-clause-rows c =
    (c.move_last.ensures.order (bearing (table_in c.args.b.now) c.args.key c.args.n c.args.form) c.args.raised c.requires.4 (omega arith), c.raise.ensures.raised)
