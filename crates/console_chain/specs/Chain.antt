-- The board's order as `chain` tells it (console.md).
use Rattle.std.specs.Prelude.{ℕ, cond, List, [], ◌∷◌, eqb}
use Rattle.board_record.specs.Order.{named}

-- the places that an order names, up to the first number that names none
unfoldable pub chain_of : List ℕ → List ℕ
chain_of [] = []
chain_of (n ∷ ns) = cond (eqb n 0) [] (named n ∷ chain_of ns)
