use Rattle.octets.proofs.Laws.{part_taken}
use Rattle.octets.proofs.take.part.Goals as goal

pub returns : goal.returns
returns g c = let a = c.args in record { part = part_taken a.s.now _ a.at a.n _ c.copy.ensures.copied }
