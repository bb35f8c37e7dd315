use Rattle.board_record.proofs.Tops.{tops_raised}
use Rattle.board_tops.proofs.raising.raise.Goals as goal

pub returns : goal.returns
returns c =
    record {
      raised = tops_raised c.args.versions.now c.args.tops.now c.args.at c.args.v c.told-versions c.told-tops c.requires.1 c.requires.2
          c.requires.0;
    }
