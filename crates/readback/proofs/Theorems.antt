-- The theorems, over the definitions that the contracts of the writer and of the reader cite. Each is proved in a file of its own, 1 in Reading, 2 in Images, 3 in Rewriting, 4 in Strays,
-- 5 in Mixed, and stated here; what only joins two of them is proved here.
use Prim.Native.Nat.{ℕ, ◌%◌, ◌≤◌, ◌<◌}
use mathlib.Core.Path.{◌≡◌, refl, sym, ◌∙◌, ap}
use mathlib.Core.Bool.{Bool, true, not, ◌&&◌}
use mathlib.Core.List.{List}
use lib.Dec.{eqb}
use lib.ListN.{length, get_or}
use borrow.Author.Tests.{eqb-true, eq-eqb}
use Rattle.answers.specs.declared.verdict.Verdict.{Verdict}
use Rattle.answers.specs.Verdicts.{accepted_with}
use Rattle.octets.specs.Octets.{octet_of}
use Rattle.octets.proofs.Said.{both_true}
use Rattle.forms.specs.declared.Form.{Form}
use Rattle.forms.specs.Forms.{srv6_form, mpls_form, form_of}
use Rattle.session.specs.declared.Session.{Session}
use Rattle.subobject.specs.declared.segment.Segment.{Segment}
use Rattle.subobject.specs.Segments.{no_segment}
use Rattle.subobject_strays.specs.Strays.{no_strays, strays_at, is_stray}
use Rattle.frame.specs.Frames.{places_of}
use Rattle.route.specs.Routes.{stray_count, judge_of, segment_of}
use Rattle.route.proofs.Answer.{accepted_count}
use Rattle.route.proofs.Strays.{none_stray}
use Rattle.writer_spare.specs.Spare.{zeros}
use Rattle.forms.proofs.Laws.{sized_by}
use Rattle.writer_layout.proofs.Forms.{readable_by}
use Rattle.writer_state.specs.declared.Writer.{Writer}
use Rattle.readback.specs.Runs.{WriterCall, write_run, any_run, taken_in, Accepted, object_in, AllTyped, open_session}
use Rattle.objects.specs.Objects.{type_place, type_worth}
use Rattle.readback.specs.Ignored.{EachOctet, stray_bits_at, stray_bits_in, assigned_in, ignored_of, segments_read}
use Rattle.readback.proofs.Images as images
use Rattle.readback.proofs.Reading as reading
use Rattle.readback.proofs.Rewriting as rewriting
use Rattle.readback.proofs.Strays as strays
use Rattle.readback.proofs.Mixed as mixed

-- Each holds for the form that a setup type names, `form_of pst`: MPLS for 1, SRv6 for any other. These say so for the two by computing.
pub one_is_mpls : form_of 1 ≡ mpls_form
one_is_mpls = refl

pub three_is_srv6 : form_of 3 ≡ srv6_form
three_is_srv6 = refl

-- 1. Whatever list of segments begin, adds and finish accept, ERO or RRO, of either form, in any buffer and from any state: the finished object
-- is accepted in a session with that form agreed, N set and no limit, under the form's setup type, with that number of segments, none of them stray,
module _ (ero : Bool) (pst : ℕ) (gs : List Segment) (b : List ℕ) (w : Writer) (typed : AllTyped gs) (accepted : Accepted (write_run b w gs ero pst)) where
  pub read_back : judge_of (object_in (write_run b w gs ero pst)) ero open_session (form_of pst).setup ≡ accepted_with (length gs)
  read_back = reading.read_back ero pst gs b w typed accepted

  -- and segment i read is segment i given.
  pub segments_back : (i : ℕ) → i < length gs → segment_of (object_in (write_run b w gs ero pst)) ero open_session (form_of pst).setup i
      ≡ record { verdict = accepted_with (length gs); segment = get_or gs i no_segment; strays = no_strays }
  segments_back i h = reading.segments_back ero pst gs b w typed accepted i h

  -- Every ignored bit of it is 0.
  pub written_zero : zeros (ignored_of (form_of pst) (object_in (write_run b w gs ero pst)) ero) ≡ true
  written_zero = reading.written_zero ero pst gs b w typed accepted

  -- In any session and under any setup type it carries no stray segment.
  pub written_unstray : (session : Session) (any : ℕ) → (judge_of (object_in (write_run b w gs ero pst)) ero session any).stray ≡ 0
  written_unstray session any = reading.written_unstray ero pst gs b w typed accepted session any

-- 2. Any two finished objects of the same kind, form and segments are equal octet for octet, whatever the buffers and the states were.
pub one_object : (ero : Bool) (pst : ℕ) (gs : List Segment) (b c : List ℕ) (v w : Writer) → Accepted (write_run b v gs ero pst) → Accepted (write_run c w gs ero pst)
    → object_in (write_run b v gs ero pst) ≡ object_in (write_run c w gs ero pst)
one_object ero pst gs b c v w p q = images.one_object ero pst gs b c v w p q

-- 3. "Rewriting what was read gives the same octets exactly if all ignored bits were 0": octets that were accepted, ERO or RRO, in any
-- session and under any setup type, and any buffer with room for them.
module _ (s : List ℕ) (ero : Bool) (session : Session) (pst : ℕ) (octets : EachOctet s) (accepted : (judge_of s ero session pst).number ≡ 0)
    (b : List ℕ) (w : Writer) (room : length s ≤ length b) where
  -- The segments read can be written,
  pub rewritten : Accepted (write_run b w (segments_read s ero session pst) ero pst)
  rewritten = rewriting.rewritten s ero session pst octets accepted b w room

  -- the object is the one that was read if all ignored bits were 0,
  pub rewritten_same : zeros (ignored_of (form_of pst) s ero) ≡ true → object_in (write_run b w (segments_read s ero session pst) ero pst) ≡ s
  rewritten_same e = rewriting.rewritten_same s ero session pst octets accepted b w room e

  -- and only if they were.
  pub rewritten_zero : object_in (write_run b w (segments_read s ero session pst) ero pst) ≡ s → zeros (ignored_of (form_of pst) s ero) ≡ true
  rewritten_zero e = rewriting.rewritten_zero s ero session pst octets accepted b w room e

  -- What is rewritten octet for octet has no stray segment.
  pub rewritten_unstray : object_in (write_run b w (segments_read s ero session pst) ero pst) ≡ s → (judge_of s ero session pst).stray ≡ 0
  unfolding judge_of
  rewritten_unstray e =
      let form = form_of pst in
      let x = zeros (stray_bits_in form s ero (places_of s)) in
      let y = zeros (assigned_in form s ero (places_of s)) in
      let q = both_true (eqb (octet_of s type_place % type_worth) 0) (x && y) (sym (strays.ignored_are form s ero) ∙ rewritten_zero e) in
      none_stray form s ero session pst
      (eqb-true _ 0 (strays.strays_none (sized_by pst) (readable_by pst) s ero (places_of s) octets ∙ (both_true x y q.1).0))

  -- Every accepted object whose ignored bits were 0 is the written one of its segments, whoever wrote it and wherever.
  pub the_written : zeros (ignored_of (form_of pst) s ero) ≡ true → (gs : List Segment) → segments_read s ero session pst ≡ gs
      → (c : List ℕ) (v : Writer) → Accepted (write_run c v gs ero pst) → object_in (write_run c v gs ero pst) ≡ s
  the_written e gs q c v p =
      let r = segments_read s ero session pst in
      let p' : Accepted (write_run c v r ero pst) = rw (← q) at p in
      rw (← q) (one_object ero pst r c b v w p' rewritten) ∙ rewritten_same e

-- 4. An accepted route carries 0 exactly if every bit named in `stray_bits_at` is 0, in each of its subobjects.
module _ (s : List ℕ) (ero : Bool) (session : Session) (pst : ℕ) (octets : EachOctet s) (accepted : (judge_of s ero session pst).number ≡ 0) where
  pub unstray_zero : (judge_of s ero session pst).stray ≡ 0 → zeros (stray_bits_in (form_of pst) s ero (places_of s)) ≡ true
  unfolding judge_of
  unstray_zero e =
      sym (strays.strays_none (sized_by pst) (readable_by pst) s ero (places_of s) octets)
      ∙ eq-eqb (stray_count (form_of pst) s ero) 0 (sym (ap (λ (v : Verdict). v.stray) (accepted_count (form_of pst) s ero session pst accepted)) ∙ e)

  pub zero_unstray : zeros (stray_bits_in (form_of pst) s ero (places_of s)) ≡ true → (judge_of s ero session pst).stray ≡ 0
  unfolding judge_of
  zero_unstray e =
      none_stray (form_of pst) s ero session pst (eqb-true _ 0 (strays.strays_none (sized_by pst) (readable_by pst) s ero (places_of s) octets ∙ e))

-- Which of the ignored bits these are: all ignored bits are 0 exactly if the header's low bits are, the strays are, and so are the flags that are assigned and ignored,
-- V of an RRO and T where S is 1. The header's bits and those flags make no segment stray.
pub ignored_are : (form : Form) (s : List ℕ) (ero : Bool)
    → zeros (ignored_of form s ero)
    ≡ (eqb (octet_of s type_place % type_worth) 0 && (zeros (stray_bits_in form s ero (places_of s)) && zeros (assigned_in form s ero (places_of s))))
ignored_are form s ero = strays.ignored_are form s ero

-- A segment is stray exactly if one of its own is set.
pub stray_bits : (pst : ℕ) (s : List ℕ) (ero : Bool) (at : ℕ) → EachOctet s
    → is_stray (strays_at (form_of pst) s ero at) ≡ not (zeros (stray_bits_at (form_of pst) s ero at))
stray_bits pst s ero at o = strays.stray_bits (sized_by pst) (readable_by pst) s ero at o

-- 5. Adds that are refused, and finishes in between, change nothing: begin, adds and finishes in any order and then a finish that is
-- accepted end, state and buffer, as begin, the adds that were accepted, and finish. So 1, 2 and 3 hold of such runs too.
pub any_run_lem : (b : List ℕ) (w : Writer) (ero : Bool) (pst : ℕ) (cs : List WriterCall) → Accepted (any_run b w cs ero pst)
    → any_run b w cs ero pst ≡ write_run b w (taken_in b w cs ero pst) ero pst
any_run_lem b w ero pst cs e = mixed.any_run_lem b w ero pst cs e
