use mathlib.Core.Path.{refl, sym, ◌∙◌, ap}
use Rattle.session.specs.declared.Session.{Session}
use Rattle.route_call.specs.Called.{judged_in}
use Rattle.border_routes.proofs.Laws.{mpls_judged, srv6_judged}
use Rattle.border_routes.proofs.judged.Goals as goal

pub returns-then-pst-eq-MPLS_SETUP : goal.returns-then-pst-eq-MPLS_SETUP
returns-then-pst-eq-MPLS_SETUP c =
    let args = c.args in record {
      judged = mpls_judged args.octets.now args.addresses.now args.kind args.session args.pst c.if-pst-eq-MPLS_SETUP.true
          refl refl c.short_in.ensures.limit c.judge_plain.ensures.judged;
    }

pub returns-then-flagged : goal.returns-then-flagged
returns-then-flagged c = let args = c.args in
    record { judged = c.judge_in.ensures.judged ∙ ap (λ (x : Session). judged_in args.octets.now args.kind x args.pst args.addresses.now) c.session_under-own.ensures.session }

pub returns : goal.returns
returns c =
    let args = c.args in let none = sym c.flagged.ensures.flagged ∙ c.if-flagged.false in record {
      judged = srv6_judged args.octets.now args.addresses.now args.kind args.session args.pst c.if-pst-eq-MPLS_SETUP.false none
          refl refl c.short_in-2.ensures.limit c.judge_plain-2.ensures.judged;
    }
