use Rattle.console_state.proofs.Laws.{list_short, list_part}
use Rattle.console_state.proofs.cut.listed.Goals as goal

pub returns-then-memory-lt-MOST_SIZE : goal.returns-then-memory-lt-MOST_SIZE
returns-then-memory-lt-MOST_SIZE c = record { listed = list_short c.args.given c.args.memory.now c.if-memory-lt-MOST_SIZE.true }

pub returns : goal.returns
returns c = record { listed = list_part _ c.args.memory.now c.fit.ensures.cut }
