use Prim.Native.Nat.{◌-◌, ◌+◌}
use mathlib.Core.Path.{◌≡◌}
use native.Mathlib.Omega.{arith}
use Rattle.frame.proofs.Laws.{going_starts, going_ends, going_room, going_here, going_on}
use Rattle.frame.proofs.place.nth.Goals as goal

pub loop-k-init : goal.loop-k-init
loop-k-init c = let none : c.args.i - 0 ≡ c.args.i = omega arith in (omega arith, rw none (going_starts _ _ c.requires.2))

pub returns-then-at-end : goal.returns-then-at-end
returns-then-at-end c = record { place = going_ends c.loop-k.invariant.1 c.if-at-end.true }

pub bounds-s-at : goal.bounds-s-at
bounds-s-at c = let h = going_room c.loop-k.invariant.1 c.if-at-end.false in omega arith

pub loop-k-preserved : goal.loop-k-preserved
loop-k-preserved c =
    let inv = c.loop-k.invariant in
    let h = going_room inv.1 c.if-at-end.false in
    let next : c.args.i - (c.loop-k.k + 1) ≡ c.args.i - c.loop-k.k - 1 = omega arith in (
      omega (arith, c.from-at.ensures),
      rw next (going_on inv.1 (omega (arith, inv.0, c.if-at-end.false)) (λ z. omega (arith, c.loop-k-test.true)) c.from-at.ensures),
    )

pub returns-then-at-end-2 : goal.returns-then-at-end-2
returns-then-at-end-2 c = record { place = going_ends c.loop-k.invariant.1 c.if-at-end-2.true }

pub returns-else-at-end-2 : goal.returns-else-at-end-2
returns-else-at-end-2 c =
    let inv = c.loop-k.invariant in
    record { place = going_here inv.1 (omega (arith, inv.0, c.if-at-end-2.false)) (omega (arith, c.loop-k-test.false)) }
