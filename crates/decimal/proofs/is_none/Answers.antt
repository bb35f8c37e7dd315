use Rattle.same_octets.specs.Same.{same_octets}
use Rattle.decimal.specs.Decimal.{is_none}
use Rattle.std.proofs.Common.{rules}
use Rattle.decimal.proofs.is_none.Goals as goal

pub returns : goal.returns
unfolding is_none same_octets
returns c = search rules
