use native.Mathlib.Omega.{arith}
use Rattle.writer_fixed.proofs.Laws.{flag_most}
use Rattle.writer_fixed.proofs.head.worth.Goals as goal

pub overflow_mul-result : goal.overflow_mul-result
overflow_mul-result c = omega (arith, flag_most c.args.flag c.from.result c.requires)

pub returns : goal.returns
returns c = record { worth = (rw c.from.ensures, omega (arith, flag_most c.args.flag c.from.result c.requires)) }
