-- No promise rests on this file: it serves the contracts of the functions that look at all places.
use Rattle.std.specs.Prelude.{ℕ, ◌≤◌, ◌<◌, ◌≡◌, List, get_or}
use Rattle.board_record.specs.Sizes.{places}

-- from place m on there is nothing but 0
abbrev pub EmptyFrom : List ℕ → ℕ → Type 0
EmptyFrom xs m = (j : ℕ) → m ≤ j → j < places → get_or xs j 0 ≡ 0

-- the places in use reach no further than m
pub record Reach (ks vs ls fs : List ℕ) (m : ℕ) : Type 0 where
  pub most : m ≤ places
  pub keys : EmptyFrom ks m
  pub versions : EmptyFrom vs m
  pub lengths : EmptyFrom ls m
  pub forms : EmptyFrom fs m
