use native.Mathlib.Omega.{arith}
use Rattle.route.proofs.Setups.{pass_accepts}
use Rattle.route.proofs.judgement.judge_parts.Goals as goal

pub returns-then-accepts : goal.returns-then-accepts
returns-then-accepts c =
    let args = c.args in
    let settled = c.seen-x.ensures.settled (omega (arith, c.if-x-ne0.true)) in
    let told = c.accepts.ensures.accepts c.if-accepts.true in
    record { judged = pass_accepts args.s.now args.ero _ args.n args.limit args.pst settled told.0 told.1 }
