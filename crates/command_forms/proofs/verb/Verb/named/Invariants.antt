use Rattle.command_forms.proofs.Laws.{Looking}
use Rattle.command_forms.proofs.verb.Verb.named.Given as goal

abbrev pub invariant-loop-verb : goal.invariant-loop-verb
invariant-loop-verb l = Looking l.w l.verb-index
