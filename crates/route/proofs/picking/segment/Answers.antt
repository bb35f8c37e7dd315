use Rattle.forms.proofs.Laws.{sized_by}
use Rattle.route.proofs.Setups.{picked_named}
use Rattle.route.proofs.picking.segment.Goals as goal

pub segment_as-requires : goal.segment_as-requires
segment_as-requires c = (rw c.named.ensures.form (sized_by c.args.pst), c.named.ensures.form)

pub returns : goal.returns
returns c = let args = c.args in record { picked = picked_named args.s.now args.ero args.session args.pst args.i c.named.ensures.form c.segment_as.ensures.picked }
