-- No promise rests on this file: it serves the contracts of the order's functions.
use Rattle.std.specs.Prelude.{ℕ, ◌<◌, List}
use Rattle.board_record.specs.Sizes.{places}
use Rattle.board_record.specs.Table.{Table, version_at, Used}
use Rattle.board_record.specs.Order.{place_on, OnOrder}

-- the used places stand on an order by rising version, with others among them
pub record Loose (b : Table) (order : List ℕ) : Type 0 where
  pub all : (p : ℕ) → p < places → Used b p → OnOrder order p
  pub rises : (i j : ℕ) → i < j → j < places → place_on order i < places → place_on order j < places → Used b (place_on order i) → Used b (place_on order j)
      → version_at b (place_on order i) < version_at b (place_on order j)
