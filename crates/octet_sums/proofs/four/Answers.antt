use Rattle.octets.specs.Octets.{octet_of}
use Rattle.octet_sums.specs.Sums.{four_at}
use Rattle.octet_sums.proofs.four.Goals as goal

pub returns : goal.returns
unfolding four_at octet_of
returns c = record { four = cc }
