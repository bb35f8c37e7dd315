-- What a call for any form answers and leaves. An acceptance says that the place is good and the segment fits (`taken`),
-- so that the rest of the buffer can be lent; `placed_back` puts it back. Assumes nothing.
use Prim.Native.Nat.{ℕ, ◌+◌, ◌-◌, ◌≤◌}
use mathlib.Core.Path.{◌≡◌, ◌∙◌, ap}
use mathlib.Core.Bool.{false}
use mathlib.Core.List.{List}
use lib.ListN.{length, take, drop, length-drop}
use native.Mathlib.Omega.{arith}
use borrow.Rule.Slice.PartMut.{put_mid}
use Rattle.octets.specs.Octets.{over}
use Rattle.octets.proofs.Laws.{placed_back, rest_lent}
use Rattle.forms.specs.declared.Form.{Form}
use Rattle.forms.specs.Sized.{Sized}
use Rattle.subobject.specs.declared.head.Head.{Head}
use Rattle.subobject.specs.declared.segment.Segment.{Segment}
use Rattle.subobject.specs.Rules.{rule8, has_structure}
use Rattle.subobject.specs.Segments.{outline_of, head_of_outline, head_of_segment, subobject_of}
use Rattle.writer_layout.specs.Readable.{Readable}
use Rattle.writer_layout.specs.Parts.{Parts}
use Rattle.writer_rules.specs.Looked.{Looked}
use Rattle.writer_rules.specs.Refusals.{most_octets, add_number}
use Rattle.writer_rules.proofs.Laws.{Taken, taken, Fits, fits_by}
use Rattle.writer_state.specs.declared.Writer.{Writer}
use Rattle.writer_state.specs.Written.{Written}
use Rattle.writer_state.specs.Answers.{refused_as, accepted_as}
use Rattle.writer_state.proofs.Laws.{answered_refused, answered_accepted, buffer_refused, buffer_accepted}
use Rattle.writer.specs.Writing.{add_answer_in, add_buffer_in}

-- A call's answer and the buffer that it leaves: a refusal,
module _ (form : Form) (g : Segment) (b : List ℕ) (w : Writer) where
  pub refused_added : {m : ℕ} {r : Written} → m ≡ add_number form g w.ero w.at (length b) → (m ≡ 0 → ⊥) → r ≡ refused_as m w
      → (r ≡ add_answer_in b form w g) × (b ≡ add_buffer_in b form w g)
  unfolding add_answer_in add_buffer_in
  refused_added {m} e z q = (answered_refused m _ _ _ q e z, buffer_refused m _ _ _ e z)

module _ {form : Form} {g : Segment} {h : Head} {front n size : ℕ} (k : Looked form g h front n size) (b : List ℕ) (w : Writer) where
  -- and an acceptance: what it says of the place, what writing asks for, and what is then left.
  module _ (z : add_number form g w.ero w.at (length b) ≡ 0) where
    pub placed_in : Taken form (length b) w.ero w.at g
    placed_in = taken form (length b) w.ero w.at g z

    fit : Fits form g front n size
    fit = fits_by k w.ero placed_in.segment.fit

    pub end_most : w.at + size ≤ most_octets
    end_most = omega (arith, fit.all, placed_in.end.most)

    pub write_asks : (h ≡ head_of_outline form (outline_of g)) × (rule8 form h ≡ false)
        × (length (subobject_of form g) ≤ length (take (length b - w.at) (drop w.at b)))
        × (Sized form) × (Readable form) × (Parts form h front n size) × (g.structured ≡ has_structure h)
    unfolding head_of_segment
    write_asks =
        let t = placed_in in (
          k.head,
          ap (rule8 form) k.head ∙ t.segment.sound.r8,
          simp (rest_lent, length-drop) (omega (arith, t.place.inside, t.end.inside)),
          k.sized,
          k.readable,
          rw k.head fit.parts,
          rw k.head fit.there,
        )

    pub accepted_added : {y : List ℕ} {r : Written} → r ≡ accepted_as (record { ero = w.ero; at = w.at + size; form = w.form })
        → y ≡ over (subobject_of form g) (take (length b - w.at) (drop w.at b))
        → (r ≡ add_answer_in b form w g) × (put_mid w.at (length b - w.at) b y ≡ add_buffer_in b form w g)
    unfolding add_answer_in add_buffer_in
    accepted_added q e =
        let s = ap (λ (x : ℕ). accepted_as (record { ero = w.ero; at = w.at + x; form = w.form })) fit.all in
        (answered_accepted _ _ _ (q ∙ s) z, buffer_accepted _ _ _ (placed_back _ _ _ _ e) z)
