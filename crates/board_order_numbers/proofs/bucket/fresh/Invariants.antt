-- The invariant: the walk of the key's bucket has come to p, and no number from p on has the key (`Walking`). A link and each way out is a law of `Laws`.
use Rattle.board_order_numbers.specs.Buckets.{along, Walking}
use Rattle.board_order_numbers.proofs.bucket.fresh.Given as goal

abbrev pub invariant-loop-p : goal.invariant-loop-p
invariant-loop-p l = Walking (along l.b.keys.now l.b.order.now) l.i l.k l.p

abbrev pub decreases-loop-p : goal.decreases-loop-p
decreases-loop-p l = l.p
