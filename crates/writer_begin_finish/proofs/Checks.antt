-- Begin and finish answer by the first broken check of their lists (writer_rules/specs/Checks): they refuse with n exactly if a check of that number is broken and none before it is, at
-- place 0, and accept exactly if none is broken. Assumes nothing.
use Prim.Native.Nat.{ℕ}
use mathlib.Core.Bool.{Bool}
use mathlib.Core.List.{List}
use lib.ListN.{length}
use Rattle.answers.specs.Verdicts.{accepted_with}
use Rattle.frame.proofs.Checks.{ByFirst}
use Rattle.writer_state.specs.declared.Writer.{Writer}
use Rattle.writer_state.proofs.Laws.{verdict_answered}
use Rattle.writer_rules.specs.Checks.{begin_checks, finish_checks}
use Rattle.writer_rules.specs.Refusals.{finish_number}
use Rattle.writer_rules.proofs.Checks.{begin_first, finish_first}
use Rattle.writer_begin_finish.specs.Ends.{begin_number, begin_answer, finish_answer}

pub begin_by_first : (b : List ℕ) (w : Writer) (ero : Bool) (pst : ℕ) → ByFirst (begin_answer b w ero pst).verdict (begin_checks (length b)) (accepted_with 0)
unfolding begin_answer begin_number
begin_by_first b w ero pst = begin_first (length b) _ (verdict_answered (begin_number (length b)) w _)

pub finish_by_first : (b : List ℕ) (w : Writer) → ByFirst (finish_answer b w).verdict (finish_checks w.at (length b)) (accepted_with 0)
unfolding finish_answer finish_number
finish_by_first b w = finish_first w.at (length b) _ (verdict_answered (finish_number w.at (length b)) w w)
