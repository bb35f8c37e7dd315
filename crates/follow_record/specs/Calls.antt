-- "Each call must answer as the old table does, call for call, from the empty start" (document 02): any sequence of calls with any arguments, made on a record that keeps
-- its rows beside the table and on the table without, each with a store. What a call leaves, the next one gets.
use Rattle.std.specs.Prelude.{ℕ, ◌≡◌, List, [], ◌∷◌}
use Rattle.answers.specs.declared.verdict.Verdict.{Verdict}
use Rattle.session.specs.declared.Sessions.{Sessions}
use Rattle.board_record.specs.declared.record.Board.{Board}
use Rattle.board_record.specs.Table.{Table, empty_table}
use Rattle.board_record.specs.Record.{table_in, empty_board}
use Rattle.board_rules.specs.Handed.{Handed}
use Rattle.board_rules.specs.declared.answer.Mark.{Mark}
use Rattle.board_rules.specs.Remove.{remove_answer}
use Rattle.board_rules.specs.Compact.{compact_answer}
use Rattle.board_rules.specs.Body.{body_number, body_of, body_form}
use Rattle.board_rules.specs.Next.{next_answer, fresh_mark}
use Rattle.board_rules.specs.Moved.{moved_answer}
use Rattle.board_report_call.specs.Reported.{report_for, report_store_for, report_for_on, report_store_for_on}
use Rattle.board_rules.specs.OnRecord.{remove_on, compact_on, body_number_on, body_on, body_form_on, next_on, moved_on}

-- report (key, ERO, the two sessions, PST, addresses), remove (key), compact (c), body (key), next (mark s, w), moved (keys a to b, version v), a fresh mark
pub data Call : Type 0 where
  report : ℕ → List ℕ → Sessions → ℕ → List ℕ → Call
  remove : ℕ → Call
  compact : ℕ → Call
  body : ℕ → Call
  next : ℕ → ℕ → Call
  moved : ℕ → ℕ → ℕ → Call
  fresh : Call

-- what the caller is answered: a verdict; a body's number, form and octets; a change or level; a mark
pub data Reply : Type 0 where
  verdict : Verdict → Reply
  given : Verdict → ℕ → List ℕ → Reply
  handed : Handed → Reply
  mark : Mark → Reply

-- ---- on the table
pub record OnTable : Type 0 where
  pub table : Table
  pub store : List ℕ

unfoldable pub reply_of : OnTable → Call → Reply
reply_of x (report k octets sessions pst addresses) = verdict (report_for x.table x.store k octets sessions pst addresses).verdict
reply_of x (remove k) = verdict (remove_answer x.table x.store k).verdict
reply_of x (compact c) = verdict (compact_answer x.table x.store c).verdict
reply_of x (body k) = given (body_number x.table x.store k) (body_form x.table x.store k) (body_of x.table x.store k)
reply_of x (next s w) = handed (next_answer x.table x.store s w)
reply_of x (moved a b v) = verdict (moved_answer x.table x.store a b v)
reply_of x fresh = mark (fresh_mark x.table)

unfoldable pub left_of : OnTable → Call → OnTable
left_of x (report k octets sessions pst addresses) =
    record { table = (report_for x.table x.store k octets sessions pst addresses).table; store = report_store_for x.table x.store k octets sessions pst addresses }
left_of x (remove k) = record { table = (remove_answer x.table x.store k).table; store = x.store }
left_of x (compact c) = record { table = (compact_answer x.table x.store c).table; store = x.store }
left_of x (body k) = x
left_of x (next s w) = x
left_of x (moved a b v) = x
left_of x fresh = x

unfoldable pub replies_of : OnTable → List Call → List Reply
replies_of x [] = []
replies_of x (c ∷ calls) = reply_of x c ∷ replies_of (left_of x c) calls

-- ---- on the record
pub record OnRecord : Type 0 where
  pub board : Board
  pub store : List ℕ

unfoldable pub reply_on : OnRecord → Call → Reply
reply_on x (report k octets sessions pst addresses) = verdict (report_for_on x.board x.store k octets sessions pst addresses).verdict
reply_on x (remove k) = verdict (remove_on x.board x.store k).verdict
reply_on x (compact c) = verdict (compact_on x.board x.store c).verdict
reply_on x (body k) = given (body_number_on x.board x.store k) (body_form_on x.board x.store k) (body_on x.board x.store k)
reply_on x (next s w) = handed (next_on x.board x.store s w)
reply_on x (moved a b v) = verdict (moved_on x.board x.store a b v)
reply_on x fresh = mark (fresh_mark (table_in x.board))

unfoldable pub left_on : OnRecord → Call → OnRecord
left_on x (report k octets sessions pst addresses) =
    record { board = (report_for_on x.board x.store k octets sessions pst addresses).board; store = report_store_for_on x.board x.store k octets sessions pst addresses }
left_on x (remove k) = record { board = (remove_on x.board x.store k).board; store = x.store }
left_on x (compact c) = record { board = (compact_on x.board x.store c).board; store = x.store }
left_on x (body k) = x
left_on x (next s w) = x
left_on x (moved a b v) = x
left_on x fresh = x

unfoldable pub replies_on : OnRecord → List Call → List Reply
replies_on x [] = []
replies_on x (c ∷ calls) = reply_on x c ∷ replies_on (left_on x c) calls

-- ---- the theorem
abbrev pub AnswersAsTheTable : Type 0
AnswersAsTheTable = (store : List ℕ) (calls : List Call) → replies_on (record { board = empty_board; store = store }) calls ≡ replies_of (record { table = empty_table; store = store }) calls
