use Rattle.forms.proofs.Laws.{srv6_sized}
use Rattle.forms.proofs.layouts.Srv6Layout.form.Goals as goal

pub returns-clause-sized : goal.returns-clause-sized
returns-clause-sized c = srv6_sized
