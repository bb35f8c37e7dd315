use Rattle.writer_begin_finish.proofs.Laws.{kept_mpls, kept_srv6}
use Rattle.writer_begin_finish.proofs.kept_form.Goals as goal

pub returns-then-pst-eq-MPLS_SETUP : goal.returns-then-pst-eq-MPLS_SETUP
returns-then-pst-eq-MPLS_SETUP c = record { form = kept_mpls c.args.pst c.if-pst-eq-MPLS_SETUP.true }

pub returns : goal.returns
returns c = record { form = kept_srv6 c.args.pst c.if-pst-eq-MPLS_SETUP.false }
