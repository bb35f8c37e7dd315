use native.Mathlib.Omega.{arith}
use Rattle.subobject.proofs.Laws.{expected_structured, expected_sid, expected_plain}
use Rattle.subobject.proofs.parts.expected.Goals as goal

pub returns-then-structure_there : goal.returns-then-structure_there
returns-then-structure_there c = record { length = (search expected_structured, omega arith) }

pub returns-then-s-eq0 : goal.returns-then-s-eq0
returns-then-s-eq0 c = record { length = (search expected_sid, omega arith) }

pub returns : goal.returns
returns c = record { length = (search expected_plain, omega arith) }
