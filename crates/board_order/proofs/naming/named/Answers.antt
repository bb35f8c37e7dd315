use native.Mathlib.Omega.{arith}
use Rattle.std.proofs.lemmas.Grind.{common_steps}
use Rattle.board_order.proofs.Names.{named_none, named_some}
use Rattle.board_order.proofs.naming.named.Goals as goal

pub returns : goal.returns
returns c = record { named = grind (arith, common_steps, named_none, named_some); none = grind (arith, common_steps) }
