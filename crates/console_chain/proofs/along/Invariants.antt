use Prim.Native.Nat.{◌≤◌, ◌-◌}
use mathlib.Core.Path.{◌≡◌}
use lib.ListN.{length}
use Rattle.board_record.specs.Sizes.{places}
use Rattle.console_chain.proofs.Laws.{Along}
use Rattle.console_chain.proofs.along.Given as goal

abbrev pub invariant-loop-i : goal.invariant-loop-i
invariant-loop-i l = (length l.order ≡ places) × (l.i ≤ places) × Along l.order l.laid l.i
