use Rattle.octets.proofs.Laws.{placed_back}
use Rattle.octets.proofs.put.lay.Goals as goal

pub returns : goal.returns
returns c = let a = c.args in record { laid = placed_back a.out.now _ a.src.now a.at c.copy.ensures.copied }
