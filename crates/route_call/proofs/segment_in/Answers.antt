use mathlib.Core.Path.{refl, ap}
use Rattle.answers.specs.declared.refusal.Refusal.{Refusal}
use Rattle.answers.specs.Verdicts.{refusal_of}
use Rattle.route.specs.Parts.{nothing_with}
use Rattle.route_call.proofs.Laws.{picked_28, picked_under}
use Rattle.route_call.proofs.segment_in.Goals as goal

pub returns-then-not-usable : goal.returns-then-not-usable
returns-then-not-usable c =
    let args = c.args in
    record {
      picked = picked_28 args.s.now args.ero args.own args.pst args.addresses.now args.i c.usable.ensures.usable
          (c.if-not-usable.true) (ap (λ (x : Refusal). nothing_with (refusal_of x)) c.into.ensures);
    }

pub returns : goal.returns
returns c =
    let args = c.args in record {
      picked = picked_under args.s.now args.ero args.own args.pst args.addresses.now args.i c.usable.ensures.usable
          (c.if-not-usable.false) refl c.session_for-here.ensures.session c.segment.ensures.picked;
    }
