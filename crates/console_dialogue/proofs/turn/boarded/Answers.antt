use mathlib.Core.Path.{◌∙◌}
use borrow.Author.Rules.{rules}
use Rattle.console_dialogue.proofs.turn.boarded.Goals as goal

pub returns : goal.returns
returns c = record { ended = (c.ended.ensures.ended.0 ∙ c.with_board.ensures.board, c.ended.ensures.ended.1) }
