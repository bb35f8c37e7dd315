use Rattle.subobject_strays.proofs.Laws.{flags_most, flags_are}
use native.Mathlib.Omega.{arith}
use Rattle.subobject_strays.proofs.stray_flags.Goals as goal

pub overflow_mul-result : goal.overflow_mul-result
overflow_mul-result c = omega (arith, flags_most c.read16.result _ _ c.from-free.ensures c.requires.1.free)

pub returns : goal.returns
returns c = record { flags = (search flags_are, flags_most c.read16.result _ _ c.from-free.ensures c.requires.1.free) }
