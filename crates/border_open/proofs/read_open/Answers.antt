use mathlib.Core.Path.{ap, ◌∙◌}
use Rattle.flag_positions.specs.declared.Positions.{Positions}
use Rattle.open.specs.Open.{open_of}
use Rattle.border_opened.specs.Opens.{opened_out}
use Rattle.border_open.proofs.read_open.Goals as goal

pub returns : goal.returns
returns c = let s = c.args.octets.now in
    record { opened = c.opened_out.ensures.opened ∙ ap opened_out (c.read_open.ensures.read ∙ ap (λ (p : Positions). open_of p s) c.positions_in-at.ensures.positions) }
