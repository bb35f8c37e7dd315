use Rattle.console_state.proofs.Laws.{take_fit}
use Rattle.console_writer.proofs.end.shown.Goals as goal

pub returns : goal.returns
returns c =
    let a = c.args in
    record {
      told = rw (← take_fit a.size a.memory.now c.fit-n.ensures.cut)
          c.octets.ensures.told;
    }
