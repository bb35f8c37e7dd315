use Rattle.label_run.specs.Alone.{AloneTo}
use Rattle.label_run.proofs.alone.labels.Given as goal

abbrev pub invariant-loop-count : goal.invariant-loop-count
invariant-loop-count l = AloneTo l.s l.count
