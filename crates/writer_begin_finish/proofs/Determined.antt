-- Of any two answers and buffers that fit a call's contract, equality.
use mathlib.Core.Path.{◌≡◌, sym, ◌∙◌}
use mathlib.Core.Bool.{Bool}
use mathlib.Core.List.{List}
use Prim.Native.Nat.{ℕ}
use Rattle.writer_state.specs.declared.Writer.{Writer}
use Rattle.writer_state.specs.declared.Written.{Written}
use Rattle.writer_state.specs.Written.{written_of}
use Rattle.writer_state.proofs.Laws.{written_back}
use Rattle.writer_begin_finish.specs.Ends.{begin_answer, begin_buffer, finish_answer, finish_buffer}

module _ (b : List ℕ) (w : Writer) {r s : Written} {after other : List ℕ} where
  pub begin_determined : (ero : Bool) (pst : ℕ) → written_of r ≡ begin_answer b w ero pst → after ≡ begin_buffer b w ero → written_of s ≡ begin_answer b w ero pst
      → other ≡ begin_buffer b w ero → (r ≡ s) × (after ≡ other)
  begin_determined ero pst p q p' q' = (written_back r s (p ∙ sym p'), q ∙ sym q')

  pub finish_determined : written_of r ≡ finish_answer b w → after ≡ finish_buffer b w → written_of s ≡ finish_answer b w → other ≡ finish_buffer b w
      → (r ≡ s) × (after ≡ other)
  finish_determined p q p' q' = (written_back r s (p ∙ sym p'), q ∙ sym q')
