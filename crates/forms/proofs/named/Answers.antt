use mathlib.Core.Path.{◌∙◌}
use Rattle.forms.proofs.Laws.{form_mpls, form_srv6}
use Rattle.forms.proofs.named.Goals as goal

pub returns-then-pst-eq-MPLS_SETUP : goal.returns-then-pst-eq-MPLS_SETUP
returns-then-pst-eq-MPLS_SETUP c = record { form = c.mpls.ensures.form ∙ form_mpls _ c.if-pst-eq-MPLS_SETUP.true }

pub returns : goal.returns
returns c = record { form = c.srv6.ensures.form ∙ form_srv6 _ c.if-pst-eq-MPLS_SETUP.false }
