use mathlib.Core.Path.{ap, ◌∙◌}
use Rattle.border_answers.specs.AnswersOut.{change_out}
use Rattle.border_looks.proofs.next.Goals as goal

pub returns : goal.returns
returns c = record { next = c.change_out.ensures.change ∙ ap change_out c.next.ensures.next }
