use mathlib.Core.Path.{refl}
use Rattle.border_routes.proofs.Laws.{step_told}
use Rattle.border_routes.proofs.step.Goals as goal

pub returns : goal.returns
returns c = let args = c.args in record { stepped = step_told args.octets.now args.ero args.pst args.at _ _ _ refl c.step.ensures.stepped c.stepped_out.ensures.stepped }
