use Prim.Native.Nat.{◌-◌, ◌/◌}
use mathlib.Core.Path.{◌≡◌}
use lib.ListN.{length}
use native.Mathlib.Omega.{arith}
use Rattle.label_run.proofs.Laws.{none_yet, one_more}
use Rattle.label_run.proofs.alone.labels.Goals as goal

pub loop-count-init : goal.loop-count-init
loop-count-init c = none_yet _ c.requires.0

pub loop-count-preserved : goal.loop-count-preserved
loop-count-preserved c =
    one_more _ _ c.loop-count.invariant (omega (arith, c.loop-count-test.true)) (c.is_alone.ensures.alone (c.if-not-is_alone.false))

pub returns : goal.returns
returns c =
    let e : c.loop-count.count ≡ (length c.args.s.now - 4) / 8 = omega (arith, c.loop-count-test.false, c.loop-count.auto.count-end) in
    record { labels = rw e at c.loop-count.invariant }
