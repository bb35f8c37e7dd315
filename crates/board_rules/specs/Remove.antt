-- Remove (document 01, "The board": "Remove (key): 17, 18, 22, 20. The removal stays as a mark.").
use Rattle.std.specs.Prelude.{ℕ, Bool, not, cond, List, length, eqb}
use Rattle.answers.specs.declared.verdict.Verdict.{Verdict}
use Rattle.answers.specs.Numbers.{not_a_board, key_out_of_range, no_path, versions_used_up}
use Rattle.answers.specs.Verdicts.{refused_by, accepted_with, kept}
use Rattle.board_record.specs.Sizes.{version_most}
use Rattle.board_record.specs.Table.{Table, bearing, changed}
use Rattle.board_record.specs.Search.{place_of}
use Rattle.board_rules.specs.Rules.{Outcome, is_board, in_range, has_path}

-- The first broken rule. `whole`: it is a board; `path`: the key has a path; `version`: the board's.
unfoldable pub remove_rules : Bool → ℕ → Bool → ℕ → Verdict
remove_rules whole k path version =
    cond (not whole) (refused_by not_a_board 0)
    (cond (not (in_range k)) (refused_by key_out_of_range 0)
    (cond (not path) (refused_by no_path 0)
    (cond (eqb version version_most) (refused_by versions_used_up 0)
    (accepted_with 0))))

unfoldable pub remove_verdict : Table → List ℕ → ℕ → Verdict
remove_verdict b store k = remove_rules (is_board b (length store)) k (has_path b k) b.version

-- the table after an accepted removal: the key keeps its place, with no body, no form and the version that the removal bears
unfoldable pub removed : Table → ℕ → Table
removed b k = changed b (place_of b k) (bearing b k 0 0) b.floor

unfoldable pub remove_answer : Table → List ℕ → ℕ → Outcome
remove_answer b store k = record { verdict = remove_verdict b store k; table = kept (remove_verdict b store k).number b (removed b k) }
