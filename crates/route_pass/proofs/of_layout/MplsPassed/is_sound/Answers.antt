use native.Mathlib.Omega.{arith}
use mathlib.Core.Path.{refl}
use Rattle.forms.proofs.Laws.{mpls_fours}
use Rattle.forms.specs.Forms.{mpls_form}
use Rattle.route_pass.proofs.Laws.{fours_sound}
use Rattle.route_pass.proofs.of_layout.MplsPassed.is_sound.Goals as goal

pub returns-clause-fours : goal.returns-clause-fours
returns-clause-fours c = λ t. fours_sound mpls_form c.args.h (c.mpls_head_sound.ensures.sound t).2 refl (omega arith) refl (mpls_fours c.args.h.nt)
