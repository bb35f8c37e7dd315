-- No promise rests on this file: it serves the contracts of the order's functions.
use Rattle.std.specs.Prelude.{ℕ, ◌+◌, cond, List, get_or, eqb, ltb}
use Rattle.board_record.specs.Sizes.{places}
use Rattle.board_record.specs.Lists.{row}

-- the order without its number `from`, where those behind it up to `to` have moved up and n stands at `to`
unfoldable pub shifted_at : List ℕ → ℕ → ℕ → ℕ → ℕ → ℕ
shifted_at order from to n i = cond (ltb i from) (get_or order i 0) (cond (ltb i to) (get_or order (i + 1) 0) (cond (eqb i to) n (get_or order i 0)))

unfoldable pub shifted : List ℕ → ℕ → ℕ → ℕ → List ℕ
shifted order from to n = row (shifted_at order from to n) places
