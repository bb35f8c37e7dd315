use mathlib.Core.Path.{◌∙◌}
use borrow.Author.Rules.{rules}
use Rattle.console_dialogue.proofs.turn.composed.Goals as goal

pub returns : goal.returns
returns c = record { ended = (c.ended.ensures.ended.0 ∙ c.with_writer.ensures.writer, c.ended.ensures.ended.1) }
