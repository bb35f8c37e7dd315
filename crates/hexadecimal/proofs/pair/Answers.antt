use Rattle.hexadecimal.specs.Hexadecimal.{pair_of}
use Rattle.std.proofs.Common.{arith}
use Rattle.hexadecimal.proofs.pair.Goals as goal

pub returns : goal.returns
unfolding pair_of
returns c = record { pair = omega arith }
