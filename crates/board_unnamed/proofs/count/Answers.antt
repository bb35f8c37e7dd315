use native.Mathlib.Omega.{arith}
use mathlib.Core.Path.{ap, ◌∙◌}
use mathlib.Core.Bool.{Bool, cond}
use Rattle.board_extent.proofs.Loops.{count_none, count_more}
use Rattle.board_unnamed.proofs.Rests.{byte_is, byte_most}
use Rattle.board_unnamed.proofs.count.Goals as goal

pub loop-i-init : goal.loop-i-init
loop-i-init g c = (omega arith, λ t f. count_none t)

pub loop-i-preserved : goal.loop-i-preserved
loop-i-preserved g c = (
  omega (arith, c.loop-i.invariant.0, c.from-n.ensures, byte_most c.passes.result),
  λ t f. count_more t _ _ _ (c.loop-i.invariant.1 t f)
      (c.from-n.ensures ∙ byte_is c.passes.result ∙ ap (λ (b : Bool). cond b 1 0) (f c.loop-i.i c.passes.result c.loop-i-test.true c.passes.ensures)),
)
