use Rattle.board_tops.proofs.Works.{Worked}
use Rattle.board_tops.proofs.working.work_out.Given as goal

abbrev pub invariant-loop-g : goal.invariant-loop-g
invariant-loop-g l = Worked l.versions l.tops l.g
