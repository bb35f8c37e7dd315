use native.Mathlib.Omega.{arith}
use mathlib.Core.Path.{refl, sym}
use Rattle.forms.proofs.Laws.{srv6_fours}
use Rattle.forms.specs.Forms.{srv6_form}
use Rattle.route_pass.proofs.Laws.{rules_of, fours_sound}
use Rattle.route_pass.proofs.of_layout.Srv6Passed.is_sound.Goals as goal

pub returns-clause-sound : goal.returns-clause-sound
returns-clause-sound c = λ t. rules_of (sym c.srv6.ensures.form) _ _ _ (c.head_sound.ensures.sound t)

pub returns-clause-fours : goal.returns-clause-fours
returns-clause-fours c = λ t. fours_sound srv6_form c.args.h (rules_of (sym c.srv6.ensures.form) _ _ _ (c.head_sound.ensures.sound t)).2 refl (omega arith) refl (srv6_fours c.args.h.nt)
