use Rattle.decimal.proofs.Laws.{Reading}
use Rattle.decimal.proofs.number.Given as goal

abbrev pub invariant-loop-c : goal.invariant-loop-c
invariant-loop-c l = Reading l.word l.v l.c-index
