-- Proper by document 01 by itself, in its own numbers ("Proper: keys of used places in range and distinct, their versions distinct, from 1 to the board's version; removals above the
-- floor; floor at most the version, that at most 2^64-2; path lengths multiples of 4 from 24 to 384; removals' lengths and all numbers of empty places 0"): no place has a form. No
-- contract cites it: that a board of SRv6 paths is proper as before rests on it, and proofs/Alone shows that such a table is proper exactly if this says so.
use Rattle.std.specs.Prelude.{ℕ, ◌<◌, ◌≤◌, ◌%◌, ◌≡◌}
use Rattle.board_record.specs.Table.{Table, key_at, version_at, length_at, form_at, Empty, Used, RemovalAt, PathAt}

-- a removal's length is 0 by what the table calls a removal
pub record ProperAlone (b : Table) : Type 0 where
  pub keys_in_range : (i : ℕ) → i < 128 → Used b i → (1 ≤ key_at b i) × (key_at b i ≤ 1048574)
  pub keys_distinct : (i j : ℕ) → i < 128 → j < 128 → Used b i → Used b j → (i ≡ j → ⊥) → key_at b i ≡ key_at b j → ⊥
  pub versions_distinct : (i j : ℕ) → i < 128 → j < 128 → Used b i → Used b j → (i ≡ j → ⊥) → version_at b i ≡ version_at b j → ⊥
  pub versions_in_range : (i : ℕ) → i < 128 → Used b i → (1 ≤ version_at b i) × (version_at b i ≤ b.version)
  pub removals_above : (i : ℕ) → i < 128 → RemovalAt b i → b.floor < version_at b i
  pub floor_in : b.floor ≤ b.version
  pub version_in : b.version ≤ 18446744073709551614
  pub lengths : (i : ℕ) → i < 128 → PathAt b i → (length_at b i % 4 ≡ 0) × ((24 ≤ length_at b i) × (length_at b i ≤ 384))
  pub empty : (i : ℕ) → i < 128 → Empty b i → (version_at b i ≡ 0) × (length_at b i ≡ 0)

-- the forms that document 02 gives such a table: 3 to a path, none to any other place
pub record FormsAlone (b : Table) : Type 0 where
  pub paths : (i : ℕ) → i < 128 → PathAt b i → form_at b i ≡ 3
  pub removals : (i : ℕ) → i < 128 → RemovalAt b i → form_at b i ≡ 0
  pub empty : (i : ℕ) → i < 128 → Empty b i → form_at b i ≡ 0
