use native.Mathlib.Omega.{arith}
use Rattle.forms.proofs.Laws.{fixed_least}
use Rattle.subobject_strays.proofs.Laws.{marked_flags, marked_fixed}
use Rattle.subobject_strays.proofs.marked.Goals as goal

pub stray_flags-requires : goal.stray_flags-requires
stray_flags-requires c = (omega (arith, fixed_least c.requires.1, c.requires.0), c.requires.1)

pub returns-then-stray_flags-ne0 : goal.returns-then-stray_flags-ne0
returns-then-stray_flags-ne0 c = record { marked = marked_flags _ _ _ _ c.stray_flags.ensures.flags.0 c.if-stray_flags-ne0.true }

pub returns-else-stray_flags-ne0 : goal.returns-else-stray_flags-ne0
returns-else-stray_flags-ne0 c = record { marked = marked_fixed _ _ _ _ _ c.stray_flags.ensures.flags.0 c.if-stray_flags-ne0.false c.reserved_two.ensures.two }
