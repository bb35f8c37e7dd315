-- Laws of the rules that several calls share. Assumes nothing.
use Prim.Native.Nat.{ℕ, ◌≤◌}
use mathlib.Core.Path.{◌≡◌, refl, ◌∙◌}
use mathlib.Core.Bool.{Bool, true, false, ◌&&◌}
use mathlib.Core.List.{List}
use borrow.Author.Tests.{le-leb}
use Rattle.board_record.specs.Sizes.{store_size}
use Rattle.board_record.specs.Table.{Table}
use Rattle.board_record.specs.Proper.{proper_b}
use Rattle.board_record.specs.Order.{in_order}
use Rattle.board_record.specs.Tops.{in_tops}
use Rattle.board_record.specs.Record.{with_rows}
use Rattle.board_rules.specs.Rules.{is_board}
use Rattle.board_rules.specs.OnRecord.{is_record}

pub board_long : (b : Table) (order tops : List ℕ) (n : ℕ) (r : Bool) → store_size ≤ n → r ≡ (proper_b b && in_order b order && in_tops b.versions tops)
    → r ≡ is_record (with_rows b order tops) n
unfolding is_record is_board
board_long b order tops n r l e = rw (le-leb store_size n l) (e ∙ apart (proper_b b) (in_order b order) (in_tops b.versions tops))
  where
    apart : (p q t : Bool) → (p && q && t) ≡ (p && (q && t))
    apart true q t = refl
    apart false q t = refl
