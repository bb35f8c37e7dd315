use Rattle.forms.proofs.Laws.{sized_by}
use Rattle.route.proofs.Setups.{by_named}
use Rattle.route.specs.Parts.{session_by}
use Rattle.route.proofs.judgement.ordered.Goals as goal

pub judge_as-requires : goal.judge_as-requires
judge_as-requires c = rw c.named.ensures.form (sized_by c.args.pst)

pub returns : goal.returns
returns c =
    let args = c.args in
    record { judged = by_named args.s.now args.ero (session_by args.agreed args.n args.limit) args.pst c.named.ensures.form c.judge_as.ensures.judged }
