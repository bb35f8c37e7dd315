-- `Passing` holds between turns; each way through a turn is one law of it (proofs/Laws).
use Rattle.msd.proofs.Laws.{Passing}
use Rattle.msd.specs.Msd.{pairs_in}
use Rattle.msd.specs.Stands.{met}
use lib.ListN.{length}
use Rattle.msd.proofs.gather.Given as goal

abbrev pub invariant-loop-pairs : goal.invariant-loop-pairs
invariant-loop-pairs l = Passing (pairs_in l.p) (pairs_in l.pairs) (met l.encaps) (met l.left)

abbrev pub decreases-loop-pairs : goal.decreases-loop-pairs
decreases-loop-pairs l = length l.pairs
