use Rattle.octets.specs.Octets.{over}
use Rattle.octets.proofs.Laws.{copied, copied_more}
use native.Mathlib.Omega.{arith}
use lib.Seq.{take-length}
use lib.ListN.{length, length-set}
use mathlib.Core.Path.{◌≡◌, refl, ◌∙◌}
use Rattle.octets.proofs.put.copy.Goals as goal

pub loop-i-init : goal.loop-i-init
loop-i-init c = (refl, refl)

pub bounds-out-i : goal.bounds-out-i
bounds-out-i c = omega (arith, c.loop-i-test.true, c.loop-i.invariant.0, c.requires)

pub loop-i-preserved : goal.loop-i-preserved
loop-i-preserved c =
    let l = c.loop-i in
    let a = c.args in
    (length-set l.out _ _ ∙ l.invariant.0, rw l.invariant.1 (copied_more a.out.now a.src.now l.i (omega (arith, c.loop-i-test.true, c.requires)) c.loop-i-test.true))

pub shape_of-out : goal.shape_of-out
shape_of-out c = c.loop-i.invariant.0

pub returns : goal.returns
unfolding over
returns c = let e : c.loop-i.i ≡ length c.args.src.now = omega (arith, c.loop-i.auto.i-end, c.loop-i-test.false) in record { copied = c.loop-i.invariant.1 ∙ rw (e, take-length) }
