use native.Mathlib.Omega.{arith}
use mathlib.Core.Path.{sym}
use Rattle.route_pass.proofs.Laws.{labels_of}
use Rattle.route_pass.proofs.of_layout.Srv6Passed.label_sound.Goals as goal

pub label_sound-requires : goal.label_sound-requires
label_sound-requires c = rw c.srv6.ensures.form (omega arith, c.requires.2)

pub returns : goal.returns
returns c = record { sound = λ t. labels_of (sym c.srv6.ensures.form) _ _ _ (c.label_sound.ensures.sound t) }
