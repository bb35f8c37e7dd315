use Rattle.forms.proofs.Laws.{form_mpls, form_srv6}
use Rattle.route_step.proofs.Laws.{by_named}
use Rattle.route_step.proofs.stepping.step.Goals as goal

pub returns-then-pst-eq-MPLS_SETUP : goal.returns-then-pst-eq-MPLS_SETUP
returns-then-pst-eq-MPLS_SETUP c = let args = c.args in record { stepped = by_named args.s.now args.ero args.pst args.at (form_mpls args.pst c.if-pst-eq-MPLS_SETUP.true) c.step_in.ensures.stepped }

pub returns : goal.returns
returns c = let args = c.args in record { stepped = by_named args.s.now args.ero args.pst args.at (form_srv6 args.pst c.if-pst-eq-MPLS_SETUP.false) c.step_in-2.ensures.stepped }
