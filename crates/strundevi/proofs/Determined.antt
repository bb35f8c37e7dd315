-- Any two answers that fit the contract of a call, and any two records and buffers that it may leave, are equal.
use Prim.Native.Nat.{ℕ}
use mathlib.Core.Path.{◌≡◌}
use mathlib.Core.List.{List}
use Rattle.answers.proofs.Determined.{determined}
use Rattle.board_record.specs.declared.record.Board.{Board}
use Rattle.board_record.specs.Record.{empty_board}
use Rattle.session.specs.Sessions.{sessions_of}
use Rattle.open.specs.Open.{open_of}
use Rattle.route_call.specs.Called.{judged_for, segment_for}
use Rattle.subobject.specs.Segments.{segment_with}
use Rattle.writer_begin_finish.specs.Ends.{begin_answer, begin_buffer, finish_answer, finish_buffer}
use Rattle.writer.specs.Writing.{add_answer, add_buffer}
use Rattle.board_rules.specs.OnRecord.{remove_on, compact_on, next_on, moved_on}
use Rattle.board_report_call.specs.Reported.{report_for_on, report_store_for_on}
use Rattle.border_opened.specs.declared.opened.OpenedRecord.{OpenedRecord}
use Rattle.border_session.specs.declared.SessionRecord.{SessionRecord}
use Rattle.border_opened.specs.declared.positions.PositionsRecord.{PositionsRecord}
use Rattle.border_segment.specs.declared.segment.OutlineRecord.{OutlineRecord}
use Rattle.border_records.specs.Records.{is_yes, verdict_out}
use Rattle.border_opened.specs.Opens.{opened_in, opened_out, positions_in}
use Rattle.border_session.specs.Agreed.{sessions_in, sessions_out}
use Rattle.route_step.specs.Steps.{step_of}
use Rattle.border_segment.specs.Segments.{outline_in, picked_out, stepped_out}
use Rattle.border_answers.specs.declared.writing.WriterRecord.{WriterRecord}
use Rattle.border_answers.specs.AnswersOut.{writer_in, written_out, change_out}
use Rattle.border_looks.specs.Looks.{part_out, fresh_out}

-- x and y, both the same value of a definition, are equal.
abbrev One : {A : Type 0} → A → Type 0
One {A} z = (x y : A) → x ≡ z → y ≡ z → x ≡ y

one : {A : Type 0} (z : A) → One z
one z x y = determined

pub read_open_determined : (p : PositionsRecord) (s : List ℕ) → One (opened_out (open_of (positions_in p) s))
read_open_determined p s = one _

pub agree_determined : (pcc pce : OpenedRecord) → One (sessions_out (sessions_of (opened_in pcc) (opened_in pce)))
agree_determined pcc pce = one _

pub judge_determined : (s : List ℕ) (ero : ℕ) (session : SessionRecord) (pst : ℕ) (addresses : List ℕ)
    → One (verdict_out (judged_for s (is_yes ero) (sessions_in session) pst addresses))
judge_determined s ero session pst addresses = one _

pub segment_determined : (s : List ℕ) (ero : ℕ) (session : SessionRecord) (pst : ℕ) (addresses : List ℕ) (i : ℕ)
    → One (picked_out (segment_for s (is_yes ero) (sessions_in session) pst addresses i))
segment_determined s ero session pst addresses i = one _

pub step_determined : (s : List ℕ) (ero pst at : ℕ) → One (stepped_out (step_of s (is_yes ero) pst at))
step_determined s ero pst at = one _

pub begin_determined : (b : List ℕ) (w : WriterRecord) (ero pst : ℕ)
    → One (written_out (begin_answer b (writer_in w) (is_yes ero) pst)) × One (begin_buffer b (writer_in w) (is_yes ero))
begin_determined b w ero pst = (one _, one _)

pub add_determined : (b : List ℕ) (w : WriterRecord) (o : OutlineRecord) (sid nai structure : List ℕ)
    → One (written_out (add_answer b (writer_in w) (segment_with (outline_in o) sid nai structure)))
    × One (add_buffer b (writer_in w) (segment_with (outline_in o) sid nai structure))
add_determined b w o sid nai structure = (one _, one _)

pub finish_determined : (b : List ℕ) (w : WriterRecord) → One (written_out (finish_answer b (writer_in w))) × One (finish_buffer b (writer_in w))
finish_determined b w = (one _, one _)

pub empty_determined : One empty_board
empty_determined = one _

pub report_determined : (b : Board) (store : List ℕ) (k : ℕ) (ero : List ℕ) (session : SessionRecord) (pst : ℕ) (addresses : List ℕ)
    → One (verdict_out (report_for_on b store k ero (sessions_in session) pst addresses).verdict) × One (report_for_on b store k ero (sessions_in session) pst addresses).board
    × One (report_store_for_on b store k ero (sessions_in session) pst addresses)
report_determined b store k ero session pst addresses = (one _, one _, one _)

pub remove_determined : (b : Board) (store : List ℕ) (k : ℕ) → One (verdict_out (remove_on b store k).verdict) × One (remove_on b store k).board
remove_determined b store k = (one _, one _)

pub compact_determined : (b : Board) (store : List ℕ) (c : ℕ) → One (verdict_out (compact_on b store c).verdict) × One (compact_on b store c).board
compact_determined b store c = (one _, one _)

pub body_determined : (b : Board) (store : List ℕ) (k : ℕ) → One (part_out b store k)
body_determined b store k = one _

pub next_determined : (b : Board) (store : List ℕ) (s w : ℕ) → One (change_out (next_on b store s w))
next_determined b store s w = one _

pub moved_determined : (b : Board) (store : List ℕ) (from to v : ℕ) → One (verdict_out (moved_on b store from to v))
moved_determined b store from to v = one _

pub fresh_mark_determined : (version : ℕ) → One (fresh_out version)
fresh_mark_determined version = one _
