use mathlib.Core.Path.{refl, ap}
use Rattle.answers.specs.Verdicts.{refusal_of}
use Rattle.route.specs.Parts.{session_by}
use Rattle.route_call.proofs.Laws.{judged_28, judged_own}
use Rattle.route_call.proofs.judge_plain.Goals as goal

pub returns-then-not-usable : goal.returns-then-not-usable
returns-then-not-usable c =
    let args = c.args in record {
      judged = judged_28 args.s.now args.ero (session_by args.agreed args.n args.limit) args.pst args.addresses.now
          c.usable.ensures.usable (c.if-not-usable.true)
          (ap refusal_of c.into.ensures);
    }

pub returns : goal.returns
returns c =
    let args = c.args in record {
      judged = judged_own args.s.now args.ero (session_by args.agreed args.n args.limit) args.pst args.addresses.now c.usable.ensures.usable
          (c.if-not-usable.false) refl refl refl c.judge_parts.ensures.judged;
    }
