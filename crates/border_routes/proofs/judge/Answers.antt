use mathlib.Core.Path.{refl}
use Rattle.border_routes.proofs.Laws.{judge_told}
use Rattle.border_routes.proofs.judge.Goals as goal

pub returns : goal.returns
returns c =
    let args = c.args in
    record { judged = judge_told args.octets.now args.addresses.now args.ero args.session args.pst _ refl _ _ c.judged.ensures.judged c.answer_out.ensures.answer }
