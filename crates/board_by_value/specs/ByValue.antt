-- What remove and compact answer where the record of a board goes by value: as where its parts are lent, and they hand it back.
use Rattle.std.specs.Prelude.{ℕ, List}
use Rattle.board_record.specs.declared.record.Board.{Board}
use Rattle.board_rules.specs.OnRecord as lent
use Rattle.board_by_value.specs.Back.{Answer}

-- a verdict and a record, handed back
abbrev pub answer_of : lent.Result → Answer
answer_of o = record { verdict = o.verdict; board = o.board }

unfoldable pub remove_by_value : Board → List ℕ → ℕ → Answer
remove_by_value b store k = answer_of (lent.remove_on b store k)

unfoldable pub compact_by_value : Board → List ℕ → ℕ → Answer
compact_by_value b store c = answer_of (lent.compact_on b store c)
