use Rattle.border_board.proofs.Laws.{told}
use Rattle.border_board.proofs.taking.remove.Goals as goal

pub returns : goal.returns
returns c = record { parts = c.remove-answer.ensures.parts; answer = told _ _ _ _ c.remove-answer.ensures.answer c.passed_out.ensures.answer }
