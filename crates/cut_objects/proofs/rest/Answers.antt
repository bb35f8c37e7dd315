use Rattle.octets.proofs.Laws.{rest_lent}
use mathlib.Core.Path.{◌∙◌}
use Rattle.cut_objects.proofs.rest.Goals as goal

pub returns : goal.returns
returns c = record { rest = rest_lent c.args.s.now c.cut-n.result ∙ rw c.cut-n.ensures.cut.0 }
