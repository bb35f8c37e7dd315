use Prim.Native.Nat.{◌-◌}
use native.Mathlib.Omega.{arith}
use mathlib.Core.Path.{◌≡◌, refl, sym, ◌∙◌}
use Rattle.console_chain.proofs.Laws.{along_none, along_more, along_stop, along_end}
use Rattle.console_chain.proofs.along.Goals as goal

pub loop-i-init : goal.loop-i-init
loop-i-init c = (c.requires.0, omega arith, along_none _ _ c.requires.1)

pub shape_of-laid-then-n-eq0 : goal.shape_of-laid-then-n-eq0
shape_of-laid-then-n-eq0 c = c.loop-i.invariant.2.long ∙ sym c.requires.1

pub returns-then-n-eq0 : goal.returns-then-n-eq0
returns-then-n-eq0 c = let inv = c.loop-i.invariant in record { named = along_stop _ _ _ _ inv.2 inv.0 c.loop-i-test.true refl c.if-n-eq0.true; within = inv.1 }

pub loop-i-preserved : goal.loop-i-preserved
loop-i-preserved c =
    let inv = c.loop-i.invariant in
    let l = c.loop-i-test.true in
    (inv.0, omega (arith, l), along_more _ _ _ _ inv.2 inv.0 l refl c.if-n-eq0.false)

pub shape_of-laid : goal.shape_of-laid
shape_of-laid c = c.loop-i.invariant.2.long ∙ sym c.requires.1

pub returns : goal.returns
returns c =
    let inv = c.loop-i.invariant in
    let e : c.loop-i.i ≡ 128 = omega (arith, inv.1, c.loop-i-test.false) in
    record { named = rw e at (along_end _ _ _ inv.2 inv.0 c.loop-i-test.false); within = omega arith }
