use mathlib.Core.Path.{ap, ◌∙◌}
use Rattle.session.specs.declared.Session.{Session}
use Rattle.route_call.specs.Called.{segment_in}
use Rattle.route_call.proofs.segment.Goals as goal

pub returns : goal.returns
returns c = let args = c.args in record { picked = c.segment_in.ensures.picked ∙ ap (λ (x : Session). segment_in args.s.now args.ero x args.pst args.addresses.now args.i) c.under.ensures.session }
