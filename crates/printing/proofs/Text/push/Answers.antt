use Rattle.printing.proofs.Laws.{behind_placed}
use Rattle.printing.proofs.Text.push.Goals as goal

pub returns-clause-behind : goal.returns-clause-behind
returns-clause-behind c = rw c.lay.ensures.laid (behind_placed c.args.self.now.out.now c.args.src.now c.args.self.now.at c.requires)
