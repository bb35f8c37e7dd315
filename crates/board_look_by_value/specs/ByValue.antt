-- What the calls that look answer where the record of a board goes by value: as where its parts are lent.
use Rattle.std.specs.Prelude.{ℕ, List}
use Rattle.answers.specs.declared.verdict.Verdict.{Verdict}
use Rattle.board_record.specs.declared.record.Board.{Board}
use Rattle.board_record.specs.Record.{table_in}
use Rattle.board_rules.specs.Handed.{Handed}
use Rattle.board_rules.specs.declared.answer.Mark.{Mark}
use Rattle.board_rules.specs.Next.{fresh_mark}
use Rattle.board_rules.specs.OnRecord as lent

abbrev pub body_number_by_value : Board → List ℕ → ℕ → Verdict
body_number_by_value b store k = lent.body_number_on b store k

abbrev pub body_by_value : Board → List ℕ → ℕ → List ℕ
body_by_value b store k = lent.body_on b store k

abbrev pub body_form_by_value : Board → List ℕ → ℕ → ℕ
body_form_by_value b store k = lent.body_form_on b store k

abbrev pub next_by_value : Board → List ℕ → ℕ → ℕ → Handed
next_by_value b store s w = lent.next_on b store s w

abbrev pub moved_by_value : Board → List ℕ → ℕ → ℕ → ℕ → Verdict
moved_by_value b store from to v = lent.moved_on b store from to v

abbrev pub fresh_mark_on : Board → Mark
fresh_mark_on b = fresh_mark (table_in b)
