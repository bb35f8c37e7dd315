use mathlib.Core.Path.{sym}
use Rattle.forms.proofs.Laws.{mpls_sized}
use Rattle.route_pass.proofs.Laws.{strays_of}
use Rattle.route_pass.proofs.of_layout.MplsPassed.stray_of.Goals as goal

pub stray_of-requires : goal.stray_of-requires
stray_of-requires c = rw c.mpls.ensures.form (c.requires.0, mpls_sized, c.requires.1)

pub returns : goal.returns
returns c = record { one = (strays_of (sym c.mpls.ensures.form) _ _ _ c.stray_of.ensures.one.0, c.stray_of.ensures.one.1) }
