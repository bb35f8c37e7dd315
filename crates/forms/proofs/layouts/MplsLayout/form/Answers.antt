use Rattle.forms.proofs.Laws.{mpls_sized}
use Rattle.forms.proofs.layouts.MplsLayout.form.Goals as goal

pub returns-clause-sized : goal.returns-clause-sized
returns-clause-sized c = mpls_sized
