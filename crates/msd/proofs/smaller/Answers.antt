use Rattle.std.proofs.Common.{rules}
use Rattle.msd.proofs.Laws.{smaller_met}
use native.Mathlib.Omega.{arith}
use Rattle.msd.proofs.smaller.Goals as goal

pub returns : goal.returns
returns c = record { smaller = smaller_met c.args.value c.args.least _ (omega arith) (search rules) }
