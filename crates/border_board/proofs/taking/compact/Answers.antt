use Rattle.border_board.proofs.Laws.{told}
use Rattle.border_board.proofs.taking.compact.Goals as goal

pub returns : goal.returns
returns c = record { parts = c.compact-answer.ensures.parts; answer = told _ _ _ _ c.compact-answer.ensures.answer c.passed_out.ensures.answer }
