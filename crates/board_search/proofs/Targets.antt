-- Where a report goes, found step by step. Assumes nothing.
use Prim.Native.Nat.{ℕ, ◌<◌, ◌≤◌}
use mathlib.Core.Path.{◌≡◌}
use borrow.Author.Tests.{lt-ltb, le-ltb}
use Rattle.board_record.specs.Sizes.{places}
use Rattle.board_record.specs.Table.{Table}
use Rattle.board_record.specs.Search.{place_in, oldest_of, target_of}

module _ (b : Table) (k : ℕ) where
  pub target_known : (i : ℕ) → i ≡ place_in b.keys k → i < places → i ≡ target_of b k
  unfolding target_of
  target_known i e l = rw (← e, lt-ltb i 128 l)

  pub target_free : (i j : ℕ) → i ≡ place_in b.keys k → places ≤ i → j ≡ place_in b.keys 0 → j < places → j ≡ target_of b k
  unfolding target_of
  target_free i j e l f m = rw (← e, le-ltb i 128 l, ← f, lt-ltb j 128 m)

  pub target_oldest : (i j m : ℕ) → i ≡ place_in b.keys k → places ≤ i → j ≡ place_in b.keys 0 → places ≤ j → m ≡ oldest_of b → m ≡ target_of b k
  unfolding target_of
  target_oldest i j m e l f h g = rw (← e, le-ltb i 128 l, ← f, le-ltb j 128 h) g
