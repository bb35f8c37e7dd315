-- Inside the end the sum is that of `sum_four_in`; past it the octets are read one by one, and their sum is `sum_at` by its definition.
use native.Mathlib.Omega.{arith}
use Rattle.octet_sums.specs.Sums.{sum_at}
use Rattle.octet_sums.proofs.sum_four.Goals as goal

pub returns-then-at-s : goal.returns-then-at-s
returns-then-at-s c = record { sum = c.sum_four_in.ensures.sum }

pub returns : goal.returns
unfolding sum_at
returns c = record { sum = (cc, omega arith) }
