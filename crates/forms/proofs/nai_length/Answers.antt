use native.Mathlib.Omega.{arith}
use Rattle.forms.proofs.Laws.{nai_none, nai_past, nai_shifted}
use Rattle.forms.proofs.nai_length.Goals as goal

pub returns-then-nt-eq-NO_NAI : goal.returns-then-nt-eq-NO_NAI
returns-then-nt-eq-NO_NAI c = record { length = (nai_none _ _ c.if-nt-eq-NO_NAI.true, omega arith) }

pub returns-then-nt-gt-LAST_NT : goal.returns-then-nt-gt-LAST_NT
returns-then-nt-gt-LAST_NT c = record { length = (nai_past _ _ c.if-nt-gt-LAST_NT.true, omega arith) }

pub overflow_mul-result : goal.overflow_mul-result
overflow_mul-result c = omega arith

pub overflow_shr-result : goal.overflow_shr-result
overflow_shr-result c = omega arith

pub returns : goal.returns
returns c = record { length = (nai_shifted _ _ c.if-nt-eq-NO_NAI.false (omega (arith, c.if-nt-gt-LAST_NT.false)), omega arith) }
