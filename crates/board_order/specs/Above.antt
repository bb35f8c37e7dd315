-- No promise rests on this file: it serves the contracts of the order's functions.
use Rattle.std.specs.Prelude.{ℕ, Bool, not, ◌||◌, List, get_or, ltb}
use Rattle.board_record.specs.Sizes.{places}
use Rattle.board_record.specs.Search.{first_where}
use Rattle.board_record.specs.Order.{place_on}

-- number i of an order names no place, or one of a version above w
unfoldable pub above_b : List ℕ → List ℕ → ℕ → ℕ → Bool
above_b versions order w i = not (ltb (place_on order i) places) || ltb w (get_or versions (place_on order i) 0)

-- the first such number; 128 where there is none
unfoldable pub first_above : List ℕ → List ℕ → ℕ → ℕ
first_above versions order w = first_where (above_b versions order w) places
