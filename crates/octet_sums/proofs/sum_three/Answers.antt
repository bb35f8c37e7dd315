use Rattle.octets.specs.Octets.{octet_of}
use Rattle.octet_sums.specs.Sums.{sum_three}
use Rattle.octet_sums.proofs.sum_three.Goals as goal

pub returns : goal.returns
unfolding sum_three octet_of
returns c = record { sum = cc }
