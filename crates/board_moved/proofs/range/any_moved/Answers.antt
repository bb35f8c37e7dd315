use Prim.Native.Nat.{◌-◌}
use native.Mathlib.Omega.{arith}
use mathlib.Core.Bool.{true}
use Rattle.board_moved.proofs.Ranges.{still_none, still_looked, still_passed, moved_here, none_moved}
use Rattle.board_moved.proofs.range.any_moved.Goals as goal

pub loop-g-init : goal.loop-g-init
loop-g-init c = (omega arith, c.requires, still_none _ _ _ _ _)

pub loop-g-preserved-then-b-g : goal.loop-g-preserved-then-b-g
loop-g-preserved-then-b-g c =
    let a = c.args in
    let loop = c.loop-g in
    let l = c.loop-g-test.true in
    (omega (arith, l), loop.invariant.1, still_passed a.b.keys.now a.b.versions.now a.from a.to a.v _ _ loop.invariant.1 l loop.invariant.2 c.if-b-g.true)

pub in_group-requires : goal.in_group-requires
in_group-requires c = c.loop-g-test.true

pub returns-then-in_group : goal.returns-then-in_group
returns-then-in_group c = let a = c.args in record { moved = moved_here a.b.keys.now a.b.versions.now a.from a.to a.v _ _ c.loop-g-test.true c.in_group.ensures.moved c.if-in_group.true }

pub loop-g-preserved : goal.loop-g-preserved
loop-g-preserved c =
    let a = c.args in
    let loop = c.loop-g in (
      omega (arith, c.loop-g-test.true),
      loop.invariant.1,
      still_looked a.b.keys.now a.b.versions.now a.from a.to a.v _ _ loop.invariant.2 c.in_group.ensures.moved c.if-in_group.false,
    )

pub returns : goal.returns
returns c = let a = c.args in record { moved = none_moved a.b.keys.now a.b.versions.now a.from a.to a.v _ c.loop-g.invariant.2 c.loop-g-test.false }
