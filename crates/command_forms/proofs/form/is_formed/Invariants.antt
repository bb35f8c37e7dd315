-- The words are as many as the kinds. Then a walk over these: `KindsLeft` says that what is left of them gives the whole answer, with one law for each way out
-- of a turn.
use Rattle.command_forms.proofs.Laws.{KindsLeft}
use Rattle.command_forms.proofs.form.is_formed.Given as goal

abbrev pub invariant-loop-i : goal.invariant-loop-i
invariant-loop-i l = KindsLeft l.kinds l.line l.i
