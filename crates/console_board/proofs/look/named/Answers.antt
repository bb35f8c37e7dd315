use Rattle.octets.specs.Octets.{part}
use Prim.Native.Nat.{◌*◌}
use native.Mathlib.Nat.{add-sub_cancel_left}
use Rattle.console_board.proofs.look.named.Goals as goal

pub returns : goal.returns
unfolding part
returns c = record { named = rw (add-sub_cancel_left (384 * c.args.place) c.args.n) }
