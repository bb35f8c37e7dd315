-- The rules that several calls of the board share (document 01, "The board").
use Rattle.std.specs.Prelude.{ℕ, Bool, not, ◌&&◌, eqb, ltb, leb}
use Rattle.answers.specs.declared.verdict.Verdict.{Verdict}
use Rattle.board_record.specs.Sizes.{places, store_size, key_least, key_most}
use Rattle.board_record.specs.Table.{Table, length_at}
use Rattle.board_record.specs.Search.{place_of}
use Rattle.board_record.specs.Proper.{proper_b}

-- 17 "is answered exactly if the store is shorter than 49,152 octets or the record isn't proper": that it isn't answered, for a store of n octets
unfoldable pub is_board : Table → ℕ → Bool
is_board b n = leb store_size n && proper_b b

-- 18 "key out of range"; "Keys are 1 to 1,048,574."
unfoldable pub in_range : ℕ → Bool
in_range k = leb key_least k && leb k key_most

-- 22 "key has no path": that it has one, by a search for its place. A look at all places (`Checks.no_path_b`) says the same of a board: `no_path_test` in proofs/Checks.
unfoldable pub has_path : Table → ℕ → Bool
has_path b k = ltb (place_of b k) places && not (eqb (length_at b (place_of b k)) 0)

-- what report, remove and compact answer: a verdict, and the table that they leave
pub record Outcome : Type 0 where
  pub verdict : Verdict
  pub table : Table

abbrev pub outcome_of : Verdict → Table → Outcome
outcome_of verdict table = record { verdict = verdict; table = table }
