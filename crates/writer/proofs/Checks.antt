-- Add answers by the first broken check of its list (writer_rules/specs/Checks): it refuses with n exactly if a check of that number is broken and none before it is, at place 0, and
-- accepts exactly if none is broken. Assumes nothing.
use Prim.Native.Nat.{ℕ}
use mathlib.Core.List.{List}
use lib.ListN.{length}
use Rattle.answers.specs.Verdicts.{accepted_with}
use Rattle.forms.specs.declared.Form.{Form}
use Rattle.forms.specs.Forms.{form_of}
use Rattle.subobject.specs.declared.segment.Segment.{Segment}
use Rattle.frame.proofs.Checks.{ByFirst}
use Rattle.writer_state.specs.declared.Writer.{Writer}
use Rattle.writer_state.proofs.Laws.{verdict_answered}
use Rattle.writer_rules.specs.Checks.{add_checks}
use Rattle.writer_rules.specs.Refusals.{add_number}
use Rattle.writer_rules.proofs.Checks.{add_first}
use Rattle.writer.specs.Writing.{add_answer_in, add_answer}

module _ (b : List ℕ) where
  -- A segment of a form, and of the form that the state names.
  pub add_in_by_first : (form : Form) (w : Writer) (g : Segment) → ByFirst (add_answer_in b form w g).verdict (add_checks form g w.ero w.at (length b)) (accepted_with 0)
  unfolding add_answer_in add_number
  add_in_by_first form w g = add_first form g w.ero w.at (length b) _ (verdict_answered (add_number form g w.ero w.at (length b)) w _)

  pub add_by_first : (w : Writer) (g : Segment) → ByFirst (add_answer b w g).verdict (add_checks (form_of w.form) g w.ero w.at (length b)) (accepted_with 0)
  add_by_first w g = add_in_by_first (form_of w.form) w g
