use mathlib.Core.Path.{◌∙◌}
use Rattle.std.proofs.Common.{◌≡◌, ◌&&◌, not}
use Rattle.subobject_shape.proofs.Shapes.{kept_at}
use Rattle.subobject_shape.proofs.shape.mpls_head_sound.Goals.{then-ero, else-ero}
use Rattle.subobject_shape.proofs.shape.mpls_head_sound.Goals as goal

pub returns : goal.returns
returns c =
    let needed : c.if-ero.needed ≡ (c.args.ero && not c.args.n) = elim c.if-ero.branch [ then-ero w ↦ rw w.if-ero.true w.needed-is | else-ero w ↦ rw w.if-ero.false (w.needed-is ∙ w.if-ero.false) ] in
    record { sound = λ e. kept_at _ _ _ _ _ _ _ _ c.requires.1 c.from-high.ensures c.from-low.ensures needed (c.fits.ensures.fits e) }
