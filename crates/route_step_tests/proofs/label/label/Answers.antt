use mathlib.Core.Path.{◌∙◌}
use Rattle.route_step_tests.proofs.Laws.{entry_label}
use Rattle.route_step_tests.proofs.label.label.Goals as goal

pub returns : goal.returns
returns c = record { label = c.label_at.ensures.label ∙ entry_label _ _ }
