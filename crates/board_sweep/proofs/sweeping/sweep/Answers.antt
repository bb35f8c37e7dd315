use native.Mathlib.Omega.{arith}
use Prim.Native.Nat.{◌-◌}
use mathlib.Core.Path.{refl}
use mathlib.Core.Bool.{false}
use Rattle.board_record.proofs.Logic.{true≢false}
use Rattle.board_sweep.proofs.Sweeps.{sweep_none, sweep_take, sweep_skip, sweep_keys, sweep_versions}
use mathlib.Core.Path.{ap}
use mathlib.Core.Bool.{not}
use Rattle.board_sweep.proofs.sweeping.sweep.Goals as goal

pub loop-i-init : goal.loop-i-init
loop-i-init c = (
  omega arith,
  sweep_none c.args.keys.now c.args.versions.now
      c.args.lengths.now c.args.c c.told-keys
      c.told-versions,
  λ e. (refl, refl),
)

pub loop-i-preserved-then-not-is_dropped : goal.loop-i-preserved-then-not-is_dropped
loop-i-preserved-then-not-is_dropped c = (
  omega arith,
  sweep_skip c.args.keys.now c.args.versions.now c.args.lengths.now
      c.args.c c.told-keys c.told-versions _ _ _ _ c.loop-i.invariant.1
      c.loop-i-test.true c.is_dropped.ensures.dropped (ap not c.if-not-is_dropped.true),
  c.loop-i.invariant.2,
)

pub loop-i-preserved : goal.loop-i-preserved
loop-i-preserved c = (
  omega arith,
  sweep_take c.args.keys.now c.args.versions.now c.args.lengths.now
      c.args.c c.told-keys c.told-versions _ _ _ _
      c.loop-i.invariant.1
      c.loop-i-test.true c.is_dropped.ensures.dropped (ap not c.if-not-is_dropped.false),
  λ e. absurd (true≢false e),
)

pub returns : goal.returns
returns c =
    record {
      keys = sweep_keys c.args.keys.now c.args.versions.now c.args.lengths.now
          c.args.c c.told-keys c.told-versions _ _ _ c.loop-i.invariant.1
          c.loop-i.invariant.0 c.loop-i-test.false;
      versions = sweep_versions c.args.keys.now c.args.versions.now c.args.lengths.now
          c.args.c c.told-keys c.told-versions _ _ _ c.loop-i.invariant.1
          c.loop-i.invariant.0 c.loop-i-test.false;
      stays = c.loop-i.invariant.2;
    }
