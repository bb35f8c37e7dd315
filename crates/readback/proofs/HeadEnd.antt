-- What is written reads back by the calls that take the head end's addresses too, whatever the list is, if it is made of whole addresses: with any sessions of
-- which the one of the written form has the form agreed, N set and no limit.
use Prim.Native.Nat.{ℕ, ◌<◌}
use mathlib.Core.Path.{◌≡◌, refl, ◌∙◌, ap}
use mathlib.Core.Bool.{Bool, false}
use mathlib.Core.List.{List}
use lib.ListN.{length, get_or}
use Rattle.answers.specs.Verdicts.{accepted_with}
use Rattle.forms.specs.Forms.{form_of}
use Rattle.session.specs.declared.Session.{Session}
use Rattle.session.specs.declared.Sessions.{Sessions}
use Rattle.session.specs.Sessions.{session_under}
use Rattle.subobject.specs.declared.segment.Segment.{Segment}
use Rattle.subobject.specs.Segments.{no_segment}
use Rattle.subobject_strays.specs.Strays.{no_strays}
use Rattle.route_call.specs.Called.{rule28, judged_in, segment_in, judged_for, segment_for}
use Rattle.route_call.proofs.Theorems.{neither_agreed, neither_agreed_picked}
use Rattle.writer_state.specs.declared.Writer.{Writer}
use Rattle.readback.specs.Runs.{write_run, Accepted, object_in, AllTyped, open_session}
use Rattle.readback.proofs.Theorems as inner

module _ (ero : Bool) (pst : ℕ) (gs : List Segment) (b : List ℕ) (w : Writer) (typed : AllTyped gs) (accepted : Accepted (write_run b w gs ero pst)) (addresses : List ℕ)
    (usable : rule28 addresses ≡ false) (sessions : Sessions) (agreed : session_under sessions (form_of pst).setup ≡ open_session) where
  pub read_back : judged_for (object_in (write_run b w gs ero pst)) ero sessions (form_of pst).setup addresses ≡ accepted_with (length gs)
  read_back =
      ap (λ (x : Session). judged_in (object_in (write_run b w gs ero pst)) ero x (form_of pst).setup addresses) agreed
      ∙ neither_agreed (object_in (write_run b w gs ero pst)) ero open_session (form_of pst).setup addresses usable refl refl
      ∙ inner.read_back ero pst gs b w typed accepted

  pub segments_back : (i : ℕ) → i < length gs → segment_for (object_in (write_run b w gs ero pst)) ero sessions (form_of pst).setup addresses i
      ≡ record { verdict = accepted_with (length gs); segment = get_or gs i no_segment; strays = no_strays }
  segments_back i h =
      ap (λ (x : Session). segment_in (object_in (write_run b w gs ero pst)) ero x (form_of pst).setup addresses i) agreed
      ∙ neither_agreed_picked (object_in (write_run b w gs ero pst)) ero open_session (form_of pst).setup addresses i usable refl refl
      ∙ inner.segments_back ero pst gs b w typed accepted i h
