use Rattle.writer_state.specs.Written.{written_of}
use Rattle.border_writing.proofs.Laws.{placed_out}
use Rattle.border_writing.proofs.placed.Goals as goal

pub returns : goal.returns
returns c = record { placed = placed_out c.args.came (written_of c.args.w) c.passed_out.result c.passed_out.ensures.answer c.requires.0 c.requires.1 }
