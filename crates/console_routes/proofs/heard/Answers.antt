use Rattle.console_routes.specs.RouteLines.{open_in}
use Rattle.console_state.proofs.Laws.{spelled}
use Rattle.open.specs.Open.{open_of}
use mathlib.Core.Path.{◌∙◌, ap}
use Rattle.console_routes.proofs.heard.Goals as goal

pub returns : goal.returns
unfolding open_in
returns c = record { read = c.read_open.ensures.read ∙ ap (open_of c.args.p) (spelled _ _ c.octets_at-n.ensures.octets) }
