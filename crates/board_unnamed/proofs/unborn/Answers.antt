use Prim.Native.Nat.{ℕ, ◌+◌, ◌-◌}
use native.Mathlib.Omega.{arith}
use mathlib.Core.Path.{ap, ◌∙◌}
use mathlib.Core.Bool.{Bool, cond}
use lib.Dec.{eqb}
use lib.ListN.{get_or}
use Rattle.board_record.specs.Sizes.{places}
use Rattle.board_extent.proofs.Loops.{count_none, count_more, count_end, count_rest}
use Rattle.board_unnamed.proofs.Rests.{version_none, byte_is, byte_most}
use Rattle.board_unnamed.proofs.unborn.Goals as goal

pub loop-i-init : goal.loop-i-init
loop-i-init c = (omega arith, count_none (λ j. eqb (get_or c.args.b.versions.now j 0) 0))

pub loop-i-preserved : goal.loop-i-preserved
loop-i-preserved c =
    let vs = c.args.b.versions.now in (
      omega (arith, c.loop-i.invariant.0, c.from-n.ensures, byte_most (eqb (get_or vs c.loop-i.i 0) 0)),
      count_more (λ j. eqb (get_or vs j 0) 0) _ _ _ c.loop-i.invariant.1 (c.from-n.ensures ∙ byte_is (eqb (get_or vs c.loop-i.i 0) 0)),
    )

pub returns : goal.returns
returns c =
    let vs = c.args.b.versions.now in
    let t : ℕ → Bool = λ j. eqb (get_or vs j 0) 0 in record {
      count = ap (λ (x : ℕ). x + (places - c.args.m)) (count_end t _ c.args.m _ c.loop-i.auto.i-end c.loop-i-test.false c.loop-i.invariant.1)
          ∙ count_rest t _ _ c.requires.0 (version_none vs _ c.requires.1);
    }
