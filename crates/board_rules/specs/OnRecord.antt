-- What the calls answer on the record that the code keeps: a table, and beside it its places in order of change and the largest version of each 8 places (document 02:
-- "Each call must answer as the old table does, call for call, from the empty start; the proper record of check 17 gains the chain's soundness"; "Keep, for each 8
-- places, the largest version among them, as a part of check 17"). Where these rows are not those of the table a call answers 17 and leaves everything as it was. Else it
-- answers as on the table, and what an accepted call leaves is the table's record.
use Rattle.std.specs.Prelude.{ℕ, Bool, cond, ◌&&◌, List, []}
use Rattle.answers.specs.declared.verdict.Verdict.{Verdict}
use Rattle.answers.specs.Numbers.{not_a_board}
use Rattle.answers.specs.Verdicts.{refused_by, kept}
use Rattle.session.specs.declared.Session.{Session}
use Rattle.board_record.specs.declared.record.Board.{Board}
use Rattle.board_record.specs.Record.{table_in, record_of, tidy}
use Rattle.board_rules.specs.Handed.{Handed, Refused}
use Rattle.board_rules.specs.Rules.{Outcome, is_board}
use Rattle.board_rules.specs.Report.{report_answer, report_store}
use Rattle.board_rules.specs.Remove.{remove_answer}
use Rattle.board_rules.specs.Compact.{compact_answer}
use Rattle.board_rules.specs.Body.{body_number, body_of, body_form}
use Rattle.board_rules.specs.Next.{next_answer}
use Rattle.board_rules.specs.Moved.{moved_answer}

-- that 17 isn't answered, for a store of n octets
unfoldable pub is_record : Board → ℕ → Bool
is_record b n = is_board (table_in b) n && tidy b

-- a verdict on the table, as the record's
abbrev pub verdict_on : Board → Verdict → Verdict
verdict_on b v = cond (tidy b) v (refused_by not_a_board 0)

-- what report, remove and compact answer: a verdict, and the record that they leave
pub record Result : Type 0 where
  pub verdict : Verdict
  pub board : Board

abbrev pub result_of : Verdict → Board → Result
result_of verdict board = record { verdict = verdict; board = board }

-- an outcome on the table, as the record's
unfoldable pub result_on : Board → Outcome → Result
result_on b o = result_of (verdict_on b o.verdict) (kept (verdict_on b o.verdict).number b (record_of o.table))

abbrev pub report_on : Board → List ℕ → ℕ → List ℕ → Session → ℕ → Result
report_on b store k octets session pst = result_on b (report_answer (table_in b) store k octets session pst)

unfoldable pub report_store_on : Board → List ℕ → ℕ → List ℕ → Session → ℕ → List ℕ
report_store_on b store k octets session pst = cond (tidy b) (report_store (table_in b) store k octets session pst) store

abbrev pub remove_on : Board → List ℕ → ℕ → Result
remove_on b store k = result_on b (remove_answer (table_in b) store k)

abbrev pub compact_on : Board → List ℕ → ℕ → Result
compact_on b store c = result_on b (compact_answer (table_in b) store c)

unfoldable pub body_number_on : Board → List ℕ → ℕ → Verdict
body_number_on b store k = verdict_on b (body_number (table_in b) store k)

unfoldable pub body_on : Board → List ℕ → ℕ → List ℕ
body_on b store k = cond (tidy b) (body_of (table_in b) store k) []

unfoldable pub body_form_on : Board → List ℕ → ℕ → ℕ
body_form_on b store k = cond (tidy b) (body_form (table_in b) store k) 0

unfoldable pub next_on : Board → List ℕ → ℕ → ℕ → Handed
next_on b store s w = cond (tidy b) (next_answer (table_in b) store s w) (Refused (refused_by not_a_board 0))

unfoldable pub moved_on : Board → List ℕ → ℕ → ℕ → ℕ → Verdict
moved_on b store from to v = verdict_on b (moved_answer (table_in b) store from to v)
