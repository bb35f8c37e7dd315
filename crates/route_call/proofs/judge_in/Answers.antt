use mathlib.Core.Path.{◌≡◌, refl, ap}
use mathlib.Core.Bool.{◌||◌}
use Rattle.answers.specs.Verdicts.{refusal_of}
use Rattle.route_call.proofs.Laws.{judged_28, judged_own, judged_under}
use Rattle.route_call.proofs.judge_in.Goals.{then-own, else-own}
use Rattle.route_call.proofs.judge_in.Goals as goal

pub returns-then-not-usable : goal.returns-then-not-usable
returns-then-not-usable c =
    let args = c.args in record {
      judged = judged_28 args.s.now args.ero args.own args.pst args.addresses.now c.usable.ensures.usable (c.if-not-usable.true)
          (ap refusal_of c.into.ensures);
    }

pub returns-then-not-own : goal.returns-then-not-own
returns-then-not-own c =
    let args = c.args in
    let either : c.if-own.value ≡ (args.own.a || args.own.r) = elim c.if-own.branch [
      | then-own w ↦ rw w.if-own.true (cc)
      | else-own w ↦ rw w.if-own.false (cc)
    ] in
    record {
      judged = judged_own args.s.now args.ero args.own args.pst args.addresses.now c.usable.ensures.usable (c.if-not-usable.false) refl either
          c.if-not-own.true c.judge.ensures.judged;
    }

pub returns : goal.returns
returns c =
    let args = c.args in record {
      judged = judged_under args.s.now args.ero args.own args.pst args.addresses.now c.usable.ensures.usable
          (c.if-not-usable.false) refl c.session_for-under.ensures.session c.judge-2.ensures.judged;
    }
