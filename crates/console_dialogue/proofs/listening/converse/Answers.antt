use Rattle.console_state.specs.State.{store_at_start}
use lib.ListN.{length-replicate}
use mathlib.Core.Path.{refl}
use native.Mathlib.Omega.{arith}
use Rattle.console_dialogue.proofs.listening.converse.Goals as goal

pub go_on-requires : goal.go_on-requires
unfolding store_at_start
go_on-requires g c = (
  refl,
  record {
    within = omega arith;
    whole = simp length-replicate (omega arith);
    rooms = record {
      spells = simp length-replicate (omega arith);
      buffer = simp length-replicate (omega arith);
      stored = simp length-replicate (omega arith);
      lent = simp length-replicate (omega arith);
      listed = simp length-replicate (omega arith);
    };
  },
)
