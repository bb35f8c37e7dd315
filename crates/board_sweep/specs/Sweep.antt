-- No promise rests on this file: it serves the contract of the sweep, an inner function.
--
-- The keys and the versions that a compaction at c leaves in the first n places: 0 where a mark is dropped.
use Rattle.std.specs.Prelude.{ℕ, cond, List, [], get_or}
use Rattle.board_record.specs.Table.{table_of}
use Rattle.board_record.specs.Lists.{row}
use Rattle.board_rules.specs.Compact.{dropped}

unfoldable pub keys_kept : List ℕ → List ℕ → List ℕ → ℕ → ℕ → List ℕ
keys_kept keys versions lengths c n = row (λ i. cond (dropped (table_of keys versions lengths 0 0 []) c i) 0 (get_or keys i 0)) n

unfoldable pub versions_kept : List ℕ → List ℕ → List ℕ → ℕ → ℕ → List ℕ
versions_kept keys versions lengths c n = row (λ i. cond (dropped (table_of keys versions lengths 0 0 []) c i) 0 (get_or versions i 0)) n
