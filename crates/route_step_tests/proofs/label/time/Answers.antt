use mathlib.Core.Path.{◌∙◌}
use Rattle.route_step_tests.proofs.Laws.{entry_time}
use Rattle.route_step_tests.proofs.label.time.Goals as goal

pub returns : goal.returns
returns c = record { time = c.time_at.ensures.time ∙ entry_time _ _ }
