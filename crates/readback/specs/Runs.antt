-- An object written whole: begin, an add for each segment, finish, by the definitions that the writer's contracts cite
-- (document 01, "Writing a route"; document 02, C-16).
use Rattle.std.specs.Prelude.{ℕ, ◌+◌, ◌≡◌, Bool, true, false, List, [], ◌∷◌, ◌++◌, length, take, None}
use Rattle.answers.specs.Verdicts.{kept}
use Rattle.session.specs.declared.Session.{Session}
use Rattle.forms.specs.declared.Form.{Form}
use Rattle.subobject.specs.declared.segment.Segment.{Segment}
use Rattle.subobject.specs.Segments.{subobject_of}
use Rattle.objects.specs.Objects.{header}
use Rattle.writer_spare.specs.Typed.{Typed}
use Rattle.writer_state.specs.declared.Writer.{Writer}
use Rattle.writer_state.specs.Written.{Written}
use Rattle.writer_begin_finish.specs.Ends.{header_of, begin_answer, begin_buffer, finish_answer, finish_buffer}
use Rattle.writer.specs.Writing.{add_answer, add_buffer}

-- calls, one after the other -----------------------------------------------------------------------------------

-- What calls answered in the end, and the lent buffer after them.
pub record Run : Type 0 where
  pub written : Written
  pub buffer : List ℕ

-- The next call gets the state and the buffer that the last one left; a refusal ends the run.
abbrev pub onward : Run → (List ℕ → Writer → Run) → Run
onward r next = kept r.written.verdict.number r (next r.buffer r.written.writer)

abbrev pub begin_run : List ℕ → Writer → Bool → ℕ → Run
begin_run b w ero pst = record { written = begin_answer b w ero pst; buffer = begin_buffer b w ero }

abbrev pub add_run : List ℕ → Writer → Segment → Run
add_run b w g = record { written = add_answer b w g; buffer = add_buffer b w g }

abbrev pub finish_run : List ℕ → Writer → Run
finish_run b w = record { written = finish_answer b w; buffer = finish_buffer b w }

-- An add for each segment, then finish.
unfoldable pub adds_run : List ℕ → Writer → List Segment → Run
adds_run b w [] = finish_run b w
adds_run b w (g ∷ gs) = onward (add_run b w g) (λ b' w'. adds_run b' w' gs)

-- Begin in any buffer with any state and for any setup type, an add for each segment, then finish.
unfoldable pub write_run : List ℕ → Writer → List Segment → Bool → ℕ → Run
write_run b w gs ero pst = onward (begin_run b w ero pst) (λ b' w'. adds_run b' w' gs)

-- Every call accepted.
abbrev pub Accepted : Run → Type 0
Accepted r = r.written.verdict.number ≡ 0

-- The finished object: the first octets of the buffer, up to the place.
abbrev pub object_in : Run → List ℕ
object_in r = take r.written.writer.at r.buffer

-- Calls in any order behind a begin: adds, refused ones too, and finishes in between.
pub data WriterCall : Type 0 where
  adding : Segment → WriterCall
  finishing : WriterCall

-- Each call gets what the last one left, whether it was refused or not; a finish stands at the end.
unfoldable pub acts_run : List ℕ → Writer → List WriterCall → Run
acts_run b w [] = finish_run b w
acts_run b w (adding g ∷ cs) = acts_run (add_buffer b w g) (add_answer b w g).writer cs
acts_run b w (finishing ∷ cs) = acts_run (finish_buffer b w) (finish_answer b w).writer cs

unfoldable pub any_run : List ℕ → Writer → List WriterCall → Bool → ℕ → Run
any_run b w cs ero pst = onward (begin_run b w ero pst) (λ b' w'. acts_run b' w' cs)

-- The segments of the adds that were accepted.
unfoldable pub taken_from : List ℕ → Writer → List WriterCall → List Segment
taken_from b w [] = []
taken_from b w (adding g ∷ cs) =
    kept (add_answer b w g).verdict.number (taken_from (add_buffer b w g) (add_answer b w g).writer cs)
    (g ∷ taken_from (add_buffer b w g) (add_answer b w g).writer cs)
taken_from b w (finishing ∷ cs) = taken_from (finish_buffer b w) (finish_answer b w).writer cs

unfoldable pub taken_in : List ℕ → Writer → List WriterCall → Bool → ℕ → List Segment
taken_in b w cs ero pst = taken_from (begin_buffer b w ero) (begin_answer b w ero pst).writer cs

-- what stands in it --------------------------------------------------------------------------------------------

-- The octets of segments of a form, one behind the other, and the object that holds them.
abbrev pub written_body : Form → List Segment → List ℕ
written_body form [] = []
written_body form (g ∷ gs) = subobject_of form g ++ written_body form gs

unfoldable pub object_of : Form → List Segment → Bool → List ℕ
object_of form gs ero = header_of ero (header + length (written_body form gs)) ++ written_body form gs

-- Segments as the code holds them.
pub data AllTyped : List Segment → Type 0 where
  none : AllTyped []
  more : {g : Segment} {gs : List Segment} → Typed g → AllTyped gs → AllTyped (g ∷ gs)

-- The session in which everything that can be written is read: the form agreed, N set, no limit; neither flag, nor v or m.
abbrev pub open_session : Session
open_session = record { agreed = true; n = true; limit = None; a = false; r = false; v = None; m = None }
