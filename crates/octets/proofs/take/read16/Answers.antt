use Rattle.octets.specs.Octets.{be16}
use borrow.Author.Rules.{rules}
use Rattle.octets.proofs.take.read16.Goals as goal

pub returns : goal.returns
unfolding be16
returns c = search rules
