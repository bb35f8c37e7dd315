-- The four octets are read one by one; their sum is `sum_at` by its definition.
use native.Mathlib.Omega.{arith}
use Rattle.octets.specs.Octets.{octet_of}
use Rattle.octet_sums.specs.Sums.{sum_at}
use Rattle.octet_sums.proofs.sum_four_in.Goals as goal

pub returns : goal.returns
unfolding sum_at octet_of
returns c = record { sum = (cc, omega arith) }
