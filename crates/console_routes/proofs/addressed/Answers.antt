use Rattle.console_routes.proofs.Laws.{list_laid}
use Rattle.console_routes.proofs.addressed.Goals as goal

pub returns : goal.returns
returns c =
    let laid = list_laid c.args.memory.now _ _ _ c.requires.0 c.octets_at.ensures.octets in
    record { list = laid.0; writer = laid.1 }
