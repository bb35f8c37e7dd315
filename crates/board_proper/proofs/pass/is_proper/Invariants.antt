-- The invariant: the numbers of the order so far name places that are sound (`Along`), the buckets of the hash hold all their keys (`Hashed`), the largest versions
-- met are those so far (`Topped`), and the bound is the larger of the last version and the floor (`Bounded`). Each way out is a law of `Passing` or `Tops`.
use Prim.Native.Nat.{◌≤◌}
use Rattle.board_record.specs.Sizes.{places}
use Rattle.board_record.specs.Lent.{table_lent}
use Rattle.board_order_numbers.specs.Buckets.{along}
use Rattle.board_proper.proofs.Keys.{Hashed}
use Rattle.board_proper.proofs.Passing.{Along}
use Rattle.board_proper.proofs.Rising.{Bounded}
use Rattle.board_proper.proofs.Tops.{Topped}
use Rattle.board_proper.proofs.pass.is_proper.Given as goal

abbrev pub invariant-loop-i : goal.invariant-loop-i
invariant-loop-i l =
    (l.i ≤ places) × Along (table_lent l.b) l.b.order.now l.i l.last × Hashed (along l.b.keys.now l.b.order.now) l.heads l.nexts l.i ×
    Topped l.b.versions.now l.b.order.now l.seen l.i
    × Bounded l.b.floor l.last l.bound
