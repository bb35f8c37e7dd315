-- Compact (document 01, "The board": "Compact (c): 17, 24 if c is above the version. Drops the marks with version at most c; the floor becomes c if
-- that is higher.").
use Rattle.std.specs.Prelude.{ℕ, max, Bool, not, cond, ◌&&◌, List, length, ltb, leb}
use Rattle.answers.specs.declared.verdict.Verdict.{Verdict}
use Rattle.answers.specs.Numbers.{not_a_board, mark_ahead}
use Rattle.answers.specs.Verdicts.{refused_by, accepted_with, kept}
use Rattle.board_record.specs.Sizes.{places}
use Rattle.board_record.specs.Lists.{row}
use Rattle.board_record.specs.Table.{Table, table_of, key_at, version_at, removal_b}
use Rattle.board_rules.specs.Rules.{Outcome, is_board}

-- The first broken rule. `whole`: it is a board; `version`: the board's.
unfoldable pub compact_rules : Bool → ℕ → ℕ → Verdict
compact_rules whole c version =
    cond (not whole) (refused_by not_a_board 0)
    (cond (ltb version c) (refused_by mark_ahead 0)
    (accepted_with 0))

unfoldable pub compact_verdict : Table → List ℕ → ℕ → Verdict
compact_verdict b store c = compact_rules (is_board b (length store)) c b.version

-- a mark "with version at most c"
unfoldable pub dropped : Table → ℕ → ℕ → Bool
dropped b c i = removal_b b i && leb (version_at b i) c

-- the table after an accepted compaction: a place whose mark is dropped is empty, every other one is as it was; a mark has neither length
-- nor form
unfoldable pub compacted : Table → ℕ → Table
compacted b c =
    table_of (row (λ i. cond (dropped b c i) 0 (key_at b i)) places) (row (λ i. cond (dropped b c i) 0 (version_at b i)) places) b.lengths
    b.version (max b.floor c) b.forms

unfoldable pub compact_answer : Table → List ℕ → ℕ → Outcome
compact_answer b store c = record { verdict = compact_verdict b store c; table = kept (compact_verdict b store c).number b (compacted b c) }
