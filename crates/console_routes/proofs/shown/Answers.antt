use Rattle.forms.proofs.Laws.{srv6_sized, mpls_sized, form_mpls, form_srv6}
use mathlib.Core.Path.{sym, ◌∙◌}
use Rattle.forms.specs.declared.Form.{Form}
use Rattle.printing.proofs.Laws.{behind_by}
use Rattle.console_fields.specs.Shown.{segment_line}
use borrow.Author.Rules.{rules}
use Rattle.console_routes.proofs.shown.Goals as goal

pub segment-requires : goal.segment-requires
segment-requires c = (search rules, rw c.mpls.ensures.form mpls_sized)

pub returns-then-pst-eq-MPLS_SETUP : goal.returns-then-pst-eq-MPLS_SETUP
returns-then-pst-eq-MPLS_SETUP c =
    let a = c.args in record {
      told = behind_by (λ (f : Form). segment_line f a.g a.x) (sym (c.mpls.ensures.form ∙ form_mpls _ c.if-pst-eq-MPLS_SETUP.true))
          c.segment.ensures.told;
    }

pub segment-requires-2 : goal.segment-requires-2
segment-requires-2 c = (search rules, rw c.srv6.ensures.form srv6_sized)

pub returns : goal.returns
returns c =
    let a = c.args in record {
      told = behind_by (λ (f : Form). segment_line f a.g a.x) (sym (c.srv6.ensures.form ∙ form_srv6 _ c.if-pst-eq-MPLS_SETUP.false))
          c.segment-2.ensures.told;
    }
