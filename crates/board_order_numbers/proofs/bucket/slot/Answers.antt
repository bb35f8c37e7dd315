use Rattle.board_order_numbers.specs.Buckets.{slot_of}
use Rattle.std.proofs.Common.{refl, arith}
use Rattle.board_order_numbers.proofs.bucket.slot.Goals as goal

pub returns : goal.returns
unfolding slot_of
returns c = record { slot = (refl, omega arith) }
