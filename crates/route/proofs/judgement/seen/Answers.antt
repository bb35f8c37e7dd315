use mathlib.Core.Path.{sym, ◌∙◌, subst}
use native.Mathlib.Omega.{arith}
use Rattle.octets.specs.Octets.{be16}
use Rattle.forms.specs.declared.Form.{Form}
use Rattle.forms.proofs.Laws.{form_mpls, form_srv6}
use Rattle.frame.proofs.Laws.{headed_sized}
use Rattle.route_pass.specs.Settled.{SettledBy}
use Rattle.route_pass.proofs.Pass.{unsettled}
use Rattle.route.proofs.judgement.seen.Goals as goal

pub returns-then-not-is_headed : goal.returns-then-not-is_headed
returns-then-not-is_headed c = record { settled = unsettled }

pub see-requires : goal.see-requires
unfolding be16
see-requires c =
    let known = c.type_inv.s in
    let headed = sym c.is_headed.ensures.headed ∙ c.if-not-is_headed.false in
    (headed, omega (arith, (headed_sized _ _ headed).read, known 2, known 3))

pub returns-then-pst-eq-MPLS_SETUP : goal.returns-then-pst-eq-MPLS_SETUP
returns-then-pst-eq-MPLS_SETUP c = let args = c.args in
    record { settled = subst (λ (form : Form). SettledBy form args.s.now args.ero args.n c.see.result) (form_mpls args.pst c.if-pst-eq-MPLS_SETUP.true) c.see.ensures.settled }

pub see-requires-2 : goal.see-requires-2
unfolding be16
see-requires-2 c =
    let known = c.type_inv.s in
    let headed = sym c.is_headed.ensures.headed ∙ c.if-not-is_headed.false in
    (headed, omega (arith, (headed_sized _ _ headed).read, known 2, known 3))

pub returns : goal.returns
returns c = let args = c.args in
    record { settled = subst (λ (form : Form). SettledBy form args.s.now args.ero args.n c.see-2.result) (form_srv6 args.pst c.if-pst-eq-MPLS_SETUP.false) c.see-2.ensures.settled }
