-- What a run that was accepted leaves: every segment was fit, and the object is the one of the segments. By induction over the segments still to add, with what has been added so far as a
-- body behind the header (`Under`, `adds`); an acceptance of each call gives the next step (`add_onward`). The second theorem follows: the object hangs on kind, form and segments alone.
use Prim.Native.Nat.{ℕ, ◌+◌, ◌%◌, ◌≤◌}
use mathlib.Core.Path.{◌≡◌, refl, sym, ◌∙◌, subst}
use mathlib.Core.Bool.{Bool}
use mathlib.Core.List.{List, [], ◌∷◌, ◌++◌, append_assoc, append-nil}
use lib.ListN.{length, take, drop, length-append}
use lib.Seq.{take_at, drop_at}
use native.Mathlib.Omega.{arith}
use Rattle.octets.specs.Octets.{over, placed}
use Rattle.forms.specs.declared.Form.{Form}
use Rattle.forms.specs.Forms.{form_of}
use Rattle.subobject.specs.declared.segment.Segment.{Segment}
use Rattle.subobject.specs.Segments.{subobject_of}
use Rattle.writer_layout.proofs.Forms.{readable_by}
use Rattle.writer_state.specs.declared.Writer.{Writer}
use Rattle.writer_rules.specs.Refusals.{most_octets, add_number, finish_number}
use Rattle.writer_rules.proofs.Laws.{Fit, Taken, taken, done}
use Rattle.writer_state.specs.Answers.{answered}
use Rattle.writer_begin_finish.specs.Ends.{header_of, begin_number, begin_answer, begin_buffer, finish_answer, finish_buffer}
use Rattle.writer.specs.Writing.{add_answer_in, add_buffer_in, add_answer}
use Rattle.readback.specs.Runs.{Run, onward, begin_run, add_run, finish_run, adds_run, write_run, Accepted, object_in, written_body, object_of}

-- Segments that adding takes, but for the room.
pub data AllFit (form : Form) (ero : Bool) : List Segment → Type 0 where
  none : AllFit form ero []
  also : {g : Segment} {gs : List Segment} → Fit form ero g → AllFit form ero gs → AllFit form ero (g ∷ gs)

-- The number of an answer is the number of its refusal.
pub number_answered : (n : ℕ) (old new : Writer) → (answered n old new).verdict.number ≡ n
number_answered ℕ.zero old new = refl
number_answered (ℕ.suc n) old new = refl

-- A run that was accepted went on.
pub went_on : (r : Run) (next : List ℕ → Writer → Run) → Accepted (onward r next) → (n : ℕ) → r.written.verdict.number ≡ n → n ≡ 0
went_on r next e ℕ.zero q = refl
went_on r next e (ℕ.suc n) q = rw q at e

-- What is laid behind a run of octets.
pub placed_behind : (p r w : List ℕ) (n : ℕ) → length p ≡ n → placed (p ++ r) n w ≡ p ++ (w ++ drop (length w) r)
unfolding placed over
placed_behind p r w n e = rw (take_at p r n e, drop_at p r n e)

-- An object under way: `body` stands behind the header, then come the segments still to add, then the rest of the buffer.
pub record Under (form : Form) (ero : Bool) (body : List ℕ) (gs : List Segment) (r : Run) : Type 0 where
  pub at : r.written.writer.at ≡ 4 + length (body ++ written_body form gs)
  pub rest : List ℕ
  pub buffer : r.buffer ≡ header_of ero (4 + length (body ++ written_body form gs)) ++ ((body ++ written_body form gs) ++ rest)
  pub fits : AllFit form ero gs
  pub most : 4 + length (body ++ written_body form gs) ≤ most_octets
  pub fours : (4 + length (body ++ written_body form gs)) % 4 ≡ 0
  pub filled : length (body ++ written_body form gs) ≡ 0 → ⊥

-- A segment added stands behind the body.
moved : (form : Form) {ero : Bool} (body : List ℕ) (g : Segment) (gs : List Segment) {r : Run} → Fit form ero g
    → Under form ero (body ++ subobject_of form g) gs r → Under form ero body (g ∷ gs) r
moved form body g gs f u =
    let e = append_assoc body (subobject_of form g) (written_body form gs) in
    record {
      at = rw e at u.at;
      rest = u.rest;
      buffer = rw e at u.buffer;
      fits = also f u.fits;
      most = rw e at u.most;
      fours = rw e at u.fours;
      filled = rw e at u.filled;
    }

finished : (form : Form) {ero : Bool} (body rest b : List ℕ) (w : Writer) → w.at ≡ 4 + length body → b ≡ header_of ero 4 ++ (body ++ rest)
    → finish_number w.at (length b) ≡ 0 → Under form ero body [] (finish_run b w)
unfolding finish_answer finish_buffer header_of placed over
finished form {ero} body rest b w ea eb e =
    let d = done (length b) w.at e in
    let n = append-nil body in
    record {
      at = rw (e, n) ea;
      rest = rest;
      buffer = rw (e, n, ea, eb);
      fits = none;
      most = rw n (omega (arith, d.place.most));
      fours = rw (n, ← ea) d.place.fours;
      filled = rw n (λ z. d.filled (omega arith));
    }

pub finish_number_lem : (b : List ℕ) (w : Writer) → (finish_answer b w).verdict.number ≡ finish_number w.at (length b)
unfolding finish_answer
finish_number_lem b w = number_answered (finish_number w.at (length b)) w w

pub add_number_lem : (b : List ℕ) (w : Writer) (g : Segment) → (add_answer b w g).verdict.number ≡ add_number (form_of w.form) g w.ero w.at (length b)
unfolding add_answer_in
add_number_lem b w g = number_answered (add_number (form_of w.form) g w.ero w.at (length b)) w _

pub begin_number_lem : (b : List ℕ) (w : Writer) (ero : Bool) (pst : ℕ) → (begin_answer b w ero pst).verdict.number ≡ begin_number (length b)
unfolding begin_answer
begin_number_lem b w ero pst = number_answered (begin_number (length b)) w _

-- A call that accepts hands on its state and its buffer.
pub add_onward : (b : List ℕ) (w : Writer) (g : Segment) (next : List ℕ → Writer → Run) → add_number (form_of w.form) g w.ero w.at (length b) ≡ 0
    → onward (add_run b w g) next
    ≡ next (placed b w.at (subobject_of (form_of w.form) g)) (record { ero = w.ero; at = w.at + length (subobject_of (form_of w.form) g); form = w.form })
unfolding add_answer_in add_buffer_in
add_onward b w g next e = rw e

pub begin_onward : (b : List ℕ) (w : Writer) (ero : Bool) (pst : ℕ) (next : List ℕ → Writer → Run) → begin_number (length b) ≡ 0
    → onward (begin_run b w ero pst) next ≡ next (over (header_of ero 4) b) (record { ero = ero; at = 4; form = (form_of pst).setup })
unfolding begin_answer begin_buffer
begin_onward b w ero pst next e = rw e

fit_of : (form : Form) (ero : Bool) (room : ℕ) (w : Writer) (g : Segment) → w.ero ≡ ero → Taken form room w.ero w.at g → Fit form ero g
fit_of form ero room w g e t = subst (λ (x : Bool). Fit form x g) e t.segment

adds : {ero : Bool} (gs : List Segment) (body rest b : List ℕ) (w : Writer) → w.ero ≡ ero → w.at ≡ 4 + length body → b ≡ header_of ero 4 ++ (body ++ rest)
    → Accepted (adds_run b w gs) → Under (form_of w.form) ero body gs (adds_run b w gs)
unfolding adds_run header_of
adds [] body rest b w ee ea eb a = finished (form_of w.form) body rest b w ea eb (sym (finish_number_lem b w) ∙ a)
adds {ero} (g ∷ gs) body rest b w ee ea eb a =
    let form = form_of w.form in
    let n = went_on (add_run b w g) (λ b' w'. adds_run b' w' gs) a (add_number form g w.ero w.at (length b)) (add_number_lem b w g) in
    let x = subobject_of form g in
    let q = add_onward b w g (λ b' w'. adds_run b' w' gs) n in
    let e1 : placed b w.at x ≡ (header_of ero 4 ++ body) ++ (x ++ drop (length x) rest)
    = rw eb (placed_behind (header_of ero 4 ++ body) rest x w.at (omega arith)) in
    let e2 : (header_of ero 4 ++ body) ++ (x ++ drop (length x) rest) ≡ header_of ero 4 ++ ((body ++ x) ++ drop (length x) rest) = simp append_assoc in
    let eb' : placed b w.at x ≡ header_of ero 4 ++ ((body ++ x) ++ drop (length x) rest) = e1 ∙ e2 in
    rw q
    (moved form body g gs (fit_of form ero (length b) w g ee (taken form (length b) w.ero w.at g n))
    (adds gs (body ++ x) (drop (length x) rest) (placed b w.at x) (record { ero = w.ero; at = w.at + length x; form = w.form }) ee
    (omega (arith, length-append body x)) eb' (rw q at a)))

adds_in : (form : Form) {ero : Bool} (gs : List Segment) (b : List ℕ) (w : Writer) → form_of w.form ≡ form → w.ero ≡ ero → w.at ≡ 4
    → b ≡ header_of ero 4 ++ ([] ++ drop 4 b) → Accepted (adds_run b w gs) → Under form ero [] gs (adds_run b w gs)
adds_in form gs b w ef ee ea eb a = rw (← ef) (adds gs [] (drop 4 b) b w ee ea eb a)

-- What an accepted run leaves.
pub record Image (form : Form) (ero : Bool) (gs : List Segment) (r : Run) : Type 0 where
  pub at : r.written.writer.at ≡ length (object_of form gs ero)
  pub object : object_in r ≡ object_of form gs ero
  pub fits : AllFit form ero gs
  pub most : 4 + length (written_body form gs) ≤ most_octets
  pub fours : (4 + length (written_body form gs)) % 4 ≡ 0
  pub filled : length (written_body form gs) ≡ 0 → ⊥

pub length_object : (form : Form) (ero : Bool) (gs : List Segment) → length (object_of form gs ero) ≡ 4 + length (written_body form gs)
unfolding object_of header_of
length_object form ero gs = omega arith

-- The octets of a buffer that starts with an object, up to its place.
cut : (form : Form) (ero : Bool) (gs : List Segment) (b rest : List ℕ) (at : ℕ) → at ≡ 4 + length (written_body form gs)
    → b ≡ header_of ero (4 + length (written_body form gs)) ++ (written_body form gs ++ rest) → take at b ≡ object_of form gs ero
unfolding object_of header_of
cut form ero gs b rest at ea eb = rw (eb, ea) (take_at (object_of form gs ero) rest (4 + length (written_body form gs)) (length_object form ero gs))

begun : (b : List ℕ) (ero : Bool) → over (header_of ero 4) b ≡ header_of ero 4 ++ ([] ++ drop 4 (over (header_of ero 4) b))
unfolding header_of over
begun b ero = refl

pub image : (ero : Bool) (pst : ℕ) (gs : List Segment) (b : List ℕ) (w : Writer) → Accepted (write_run b w gs ero pst)
    → Image (form_of pst) ero gs (write_run b w gs ero pst)
unfolding write_run
image ero pst gs b w a =
    let form = form_of pst in
    let n = went_on (begin_run b w ero pst) (λ b' w'. adds_run b' w' gs) a (begin_number (length b)) (begin_number_lem b w ero pst) in
    let q = begin_onward b w ero pst (λ b' w'. adds_run b' w' gs) n in
    let u = adds_in form gs (over (header_of ero 4) b) (record { ero = ero; at = 4; form = (form_of pst).setup }) (readable_by pst).setup refl refl (begun b ero) (rw q at a) in
    rw q
    (record {
      at = u.at ∙ sym (length_object form ero gs);
      object = cut form ero gs _ u.rest _ u.at u.buffer;
      fits = u.fits;
      most = u.most;
      fours = u.fours;
      filled = u.filled;
    })

-- the second theorem: one object -------------------------------------------------------------------------------

-- Any two finished objects of the same kind, form and segments are equal octet for octet, whatever the buffers and the states were.
pub one_object : (ero : Bool) (pst : ℕ) (gs : List Segment) (b c : List ℕ) (v w : Writer) → Accepted (write_run b v gs ero pst) → Accepted (write_run c w gs ero pst)
    → object_in (write_run b v gs ero pst) ≡ object_in (write_run c w gs ero pst)
one_object ero pst gs b c v w p q = (image ero pst gs b v p).object ∙ sym (image ero pst gs c w q).object
