-- What is said of a record whose parts are lent, as it is when they are lent: its table, and the record.
use Rattle.board_record.specs.declared.record.Board.{Board}
use Rattle.board_record.specs.declared.lent.Lent.{Lent}
use Rattle.board_record.specs.Table.{Table, table_of}
use Rattle.board_record.specs.Record.{board_of}

abbrev pub table_lent : Lent → Table
table_lent b = table_of b.keys.now b.versions.now b.lengths.now b.version b.floor b.forms.now

abbrev pub board_lent : Lent → Board
board_lent b = board_of b.keys.now b.versions.now b.lengths.now b.version b.floor b.order.now b.tops.now b.forms.now
