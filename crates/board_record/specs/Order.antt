-- The places in order of change (document 02: "Keep the used places chained from oldest change to newest"). The chain is a list of 128 numbers beside the
-- table. A number names a place by 1 more than the place, and 0 names none: first the used places, each once, by rising version; the numbers behind them are 0.
use Rattle.std.specs.Prelude.{ℕ, ◌+◌, ◌-◌, ◌<◌, ◌≤◌, ◌≡◌, Bool, cond, ◌&&◌, List, get_or, eqb, ltb}
use Rattle.board_record.specs.Sizes.{places}
use Rattle.board_record.specs.Lists.{row, count_below}
use Rattle.board_record.specs.Table.{Table, version_at, Used, used_b}
use Rattle.board_record.specs.Search.{first_where}
use Rattle.board_record.specs.Proper.{all_below}

-- the place that a number names; 128 for none
unfoldable pub named : ℕ → ℕ
named n = cond (eqb n 0) places (n - 1)

-- the place that number i of an order names
abbrev pub place_on : List ℕ → ℕ → ℕ
place_on order i = named (get_or order i 0)

-- a place stands on an order
pub record OnOrder (order : List ℕ) (p : ℕ) : Type 0 where
  pub at : ℕ
  pub here : at < places
  pub is : place_on order at ≡ p

-- before a place there stand only places, of lower version; so each stands there once
abbrev pub Rises : List ℕ → List ℕ → Type 0
Rises versions order = (i j : ℕ) → i < j → j < places → place_on order j < places
    → (place_on order i < places) × (get_or versions (place_on order i) 0 < get_or versions (place_on order j) 0)

pub record Chained (b : Table) (order : List ℕ) : Type 0 where
  -- only used places stand on it
  pub used : (i : ℕ) → i < places → place_on order i < places → Used b (place_on order i)
  -- and every used place
  pub all : (p : ℕ) → p < places → Used b p → OnOrder order p
  -- from the oldest change to the newest
  pub rises : Rises b.versions order
  -- a number that names no place is 0
  pub rest : (i : ℕ) → i < places → places ≤ place_on order i → get_or order i 0 ≡ 0

-- ---- the same as a function of the table; the crate board_order shows that it is chained for a proper table, and that no other order is

-- how many changes are older than that of place p
unfoldable pub older_of : Table → ℕ → ℕ
older_of b p = count_below (λ q. used_b b q && ltb (version_at b q) (version_at b p)) places

-- the place whose change has i older ones; 128 where there is none
unfoldable pub place_at : Table → ℕ → ℕ
place_at b i = first_where (λ p. used_b b p && eqb (older_of b p) i) places

-- the number that names a place; 0 for none
unfoldable pub order_number : ℕ → ℕ
order_number p = cond (ltb p places) (p + 1) 0

unfoldable pub order_of : Table → List ℕ
order_of b = row (λ i. order_number (place_at b i)) places

-- that an order is the order of the table, as a test
unfoldable pub in_order : Table → List ℕ → Bool
in_order b order = all_below (λ i. eqb (get_or order i 0) (order_number (place_at b i))) places
