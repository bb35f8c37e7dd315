use native.Mathlib.Omega.{arith}
use Rattle.forms.proofs.Laws.{flag_none, flag_some}
use Rattle.forms.proofs.flag.Goals as goal

-- src/lib.rt:99:9
pub returns-then-w-eq0 : goal.returns-then-w-eq0
returns-then-w-eq0 c = record { flag = (search flag_none, omega arith) }

-- src/lib.rt:94:1
pub returns : goal.returns
returns c = record { flag = (search flag_some, omega arith) }
