use mathlib.Core.Path.{◌∙◌}
use native.Mathlib.Omega.{arith}
use Rattle.route.proofs.Setups.{judge_parts, pass_accepts}
use Rattle.route.proofs.judgement.judge.Goals as goal

pub returns-then-accepts : goal.returns-then-accepts
returns-then-accepts c =
    let args = c.args in
    let session = args.session in
    let settled = c.seen-x.ensures.settled (omega (arith, c.if-x-ne0.true)) in
    let told = c.accepts.ensures.accepts c.if-accepts.true in
    record {
      judged = pass_accepts args.s.now args.ero _ session.n session.limit args.pst settled told.0 told.1 ∙ judge_parts args.s.now args.ero session args.pst;
    }

pub returns : goal.returns
returns c = let args = c.args in record { judged = c.ordered.ensures.judged ∙ judge_parts args.s.now args.ero args.session args.pst }
