-- From the answers of the calls below to those at the border: the same answer, of a writer and an outline that came in as records. Assumes nothing.
use Prim.Native.Nat.{ℕ, ◌+◌, ◌≤◌}
use mathlib.Core.Path.{◌≡◌, refl, ap, ◌∙◌}
use mathlib.Core.List.{List}
use lib.ListN.{length}
use native.Mathlib.Omega.{arith}
use Rattle.forms.specs.declared.Form.{Form}
use Rattle.forms.specs.Forms.{form_of}
use Rattle.subobject.specs.declared.segment.Outline.{Outline}
use Rattle.subobject.specs.declared.segment.Segment.{Segment}
use Rattle.subobject.specs.Segments.{subobject_of}
use Rattle.writer_rules.specs.Refusals.{add_number}
use Rattle.writer_state.specs.declared.Writer.{Writer}
use Rattle.writer_state.specs.Written.{Written}
use Rattle.writer_state.specs.Answers.{answered}
use Rattle.writer.specs.Writing.{add_answer_in, add_answer}
use Rattle.border_records.specs.declared.verdict.VerdictRecord.{VerdictRecord}
use Rattle.border_records.specs.Records.{is_yes, bit, verdict_out}
use Rattle.border_answers.specs.declared.writing.WriterRecord.{WriterRecord}
use Rattle.border_answers.specs.declared.writing.WrittenRecord.{WrittenRecord}
use Rattle.border_answers.specs.AnswersOut.{writer_in, written_out}

-- One answer and one buffer that hang on a writer.
pub by_writer : (answer : Writer → Written) (buffer : Writer → List ℕ) (w : Writer) (v : Written) (r : WrittenRecord) (after : List ℕ) (x : WriterRecord)
    → w ≡ writer_in x → v ≡ answer w → after ≡ buffer w → r ≡ written_out v
    → (r ≡ written_out (answer (writer_in x))) × (after ≡ buffer (writer_in x))
by_writer answer buffer w v r after x f e g h = (h ∙ ap written_out (e ∙ ap answer f), g ∙ ap buffer f)

-- What hangs on a form and an outline, of those that are the same.
pub by_form : {A : Type 0} (f : Form → Outline → A) {r : A} {m n : Form} {o p : Outline} → r ≡ f m o → m ≡ n → o ≡ p → r ≡ f n p
by_form f {r} {m} {n} {o} {p} e i j = e ∙ ap (λ (x : Form). f x o) i ∙ ap (f n) j

-- Adding hands back the kind and the form that it was given.
pub state_kept : (b : List ℕ) (w : Writer) (g : Segment) (v : Written) → v ≡ add_answer b w g → (v.writer.ero ≡ w.ero) × (v.writer.form ≡ w.form)
unfolding add_answer_in
state_kept b w g v e =
    let form = form_of w.form in
    let n = add_number form g w.ero w.at (length b) in
    let new : Writer = record { ero = w.ero; at = w.at + length (subobject_of form g); form = w.form } in
    (ap (λ (x : Written). x.writer.ero) e ∙ eros n new refl, ap (λ (x : Written). x.writer.form) e ∙ forms n new refl)
  where
    eros : (n : ℕ) (new : Writer) → new.ero ≡ w.ero → (answered n w new).writer.ero ≡ w.ero
    eros ℕ.zero new q = q
    eros (ℕ.suc n) new q = refl

    forms : (n : ℕ) (new : Writer) → new.form ≡ w.form → (answered n w new).writer.form ≡ w.form
    forms ℕ.zero new q = q
    forms (ℕ.suc n) new q = refl

-- A record that is handed back with another place only.
pub placed_out : (x : WriterRecord) (v : Written) (d : VerdictRecord) → d ≡ verdict_out v.verdict → x.ero ≡ bit v.writer.ero
    → x.form ≡ v.writer.form
    → ◌≡◌ {A = WrittenRecord} (record { verdict = d; writer = record { ero = x.ero; form = x.form; at = v.writer.at } }) (written_out v)
placed_out x v d e k f = by_parts e k f
  where
    by_parts : {a b : VerdictRecord} {m n s t : ℕ} → a ≡ b → m ≡ n → s ≡ t
        → ◌≡◌ {A = WrittenRecord} (record { verdict = a; writer = record { ero = m; form = s; at = v.writer.at } })
        (record { verdict = b; writer = record { ero = n; form = t; at = v.writer.at } })
    by_parts i j l = cc

-- A flag that is 0 or 1 comes back as it was.
pub flag_back : (n : ℕ) → n ≤ 1 → n ≡ bit (is_yes n)
flag_back ℕ.zero h = refl
flag_back (ℕ.suc ℕ.zero) h = refl
flag_back (ℕ.suc (ℕ.suc n)) h = absurd (omega arith)
