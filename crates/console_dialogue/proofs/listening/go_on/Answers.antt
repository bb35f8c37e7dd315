use Rattle.std.proofs.Common.{arith, refl}
use Rattle.console_dialogue.proofs.ReachedLaws.{start_made, reached_start}
use Rattle.console_dialogue.proofs.listening.go_on.Goals as goal

pub loop-turns-init : goal.loop-turns-init
loop-turns-init g c = (
  refl,
  refl,
  refl,
  refl,
  refl,
  omega arith,
  reached_start (start_made c.args.line.now c.args.memory.now c.start-state.ensures.start c.requires.0),
)
