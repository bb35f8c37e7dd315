-- Of any two answers and buffers that fit a call's contract, equality.
use mathlib.Core.Path.{◌≡◌, sym, ◌∙◌}
use mathlib.Core.List.{List}
use Prim.Native.Nat.{ℕ}
use Rattle.subobject.specs.declared.segment.Segment.{Segment}
use Rattle.writer_state.specs.declared.Writer.{Writer}
use Rattle.writer_state.specs.declared.Written.{Written}
use Rattle.writer_state.specs.Written.{written_of}
use Rattle.writer_state.proofs.Laws.{written_back}
use Rattle.forms.specs.Forms.{srv6_form, mpls_form}
use Rattle.writer.specs.Writing.{add_answer_in, add_buffer_in, add_answer, add_buffer}

module _ (b : List ℕ) (w : Writer) {r s : Written} {after other : List ℕ} where
  pub add_determined : (g : Segment) → written_of r ≡ add_answer b w g → after ≡ add_buffer b w g → written_of s ≡ add_answer b w g
      → other ≡ add_buffer b w g → (r ≡ s) × (after ≡ other)
  add_determined g p q p' q' = (written_back r s (p ∙ sym p'), q ∙ sym q')

  pub add_srv6_determined : (g : Segment) → written_of r ≡ add_answer_in b srv6_form w g → after ≡ add_buffer_in b srv6_form w g
      → written_of s ≡ add_answer_in b srv6_form w g → other ≡ add_buffer_in b srv6_form w g → (r ≡ s) × (after ≡ other)
  add_srv6_determined g p q p' q' = (written_back r s (p ∙ sym p'), q ∙ sym q')

  pub add_mpls_determined : (g : Segment) → written_of r ≡ add_answer_in b mpls_form w g → after ≡ add_buffer_in b mpls_form w g
      → written_of s ≡ add_answer_in b mpls_form w g → other ≡ add_buffer_in b mpls_form w g → (r ≡ s) × (after ≡ other)
  add_mpls_determined g p q p' q' = (written_back r s (p ∙ sym p'), q ∙ sym q')
