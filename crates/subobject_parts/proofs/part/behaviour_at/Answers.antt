use native.Mathlib.Omega.{arith}
use Rattle.forms.proofs.Laws.{fixed_eight}
use Rattle.subobject_parts.proofs.part.behaviour_at.Goals as goal

pub read16-requires : goal.read16-requires
read16-requires c = omega (arith, fixed_eight c.requires.1 c.if-form.true, c.requires.0)

pub returns-then-form : goal.returns-then-form
returns-then-form c = record { behaviour = rw c.if-form.true c.read16.ensures.number.0 }

pub returns : goal.returns
returns c = record { behaviour = rw c.if-form.false }
