-- The empty board is one: two answers that fit its contract are equal. Its table is the empty one. Assumes nothing.
use Prim.Native.Nat.{ℕ}
use mathlib.Core.Path.{◌≡◌, refl, sym, ◌∙◌}
use mathlib.Core.List.{List}
use Rattle.board_record.specs.declared.record.Board.{Board}
use Rattle.board_record.specs.Table.{Table, empty_table}
use Rattle.board_record.specs.Record.{table_in, with_rows, empty_board}

pub empty_determined : (a b : Board) → a ≡ empty_board → b ≡ empty_board → a ≡ b
empty_determined a b p q = p ∙ sym q

pub empty_table_lem : table_in empty_board ≡ empty_table
empty_table_lem = refl

-- the record is its table and its rows
pub table_back : (t : Table) (order tops : List ℕ) → table_in (with_rows t order tops) ≡ t
table_back t order tops = refl

pub record_back : (b : Board) → with_rows (table_in b) b.order b.tops ≡ b
record_back b = refl
