use mathlib.Core.Path.{refl}
use Rattle.border_routes.proofs.Laws.{segment_told}
use Rattle.border_routes.proofs.segment_at.Goals as goal

pub returns : goal.returns
returns c =
    let args = c.args in record {
      picked = segment_told args.octets.now args.addresses.now args.ero args.session args.pst _ refl args.i _ _ _ c.session_under-own.ensures.session
          c.segment_in.ensures.picked c.picked_out.ensures.picked;
    }
