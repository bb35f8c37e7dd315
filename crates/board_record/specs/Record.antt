-- The record that the code keeps of a board: a table, and beside it two rows, its places in order of change and the largest version of each 8 places. What the
-- calls answer is said of the table (Table.antt).
use Rattle.std.specs.Prelude.{Bool, ◌&&◌, List, ℕ, replicate}
use Rattle.board_record.specs.declared.record.Board.{Board}
use Rattle.board_record.specs.Sizes.{places, groups}
use Rattle.board_record.specs.Table.{Table, table_of, empty_table}
use Rattle.board_record.specs.Order.{order_of, in_order}
use Rattle.board_record.specs.Tops.{tops_of, in_tops}

abbrev pub table_in : Board → Table
table_in b = table_of b.keys b.versions b.lengths b.version b.floor b.forms

-- the record of a table and its rows
abbrev pub with_rows : Table → List ℕ → List ℕ → Board
with_rows t order tops =
    record { keys = t.keys; versions = t.versions; lengths = t.lengths; version = t.version; floor = t.floor; order = order; tops = tops; forms = t.forms }

-- the record, of its parts, in the order in which the calls take them
abbrev pub board_of : List ℕ → List ℕ → List ℕ → ℕ → ℕ → List ℕ → List ℕ → List ℕ → Board
board_of keys versions lengths version floor order tops forms = with_rows (table_of keys versions lengths version floor forms) order tops

-- the record of a table, with the rows that it gives
abbrev pub record_of : Table → Board
record_of t = with_rows t (order_of t) (tops_of t.versions)

-- that the rows of a record are those of its table
abbrev pub tidy : Board → Bool
tidy b = in_order (table_in b) b.order && in_tops b.versions b.tops

-- the record at the start: every number of it is 0
abbrev pub empty_board : Board
empty_board = with_rows empty_table (replicate places 0) (replicate groups 0)
