use mathlib.Core.Path.{refl, ◌∙◌}
use Rattle.board_extent.proofs.Loops.{all_rest}
use Rattle.board_places.proofs.Reached.{body_none, key_none, tests_none, tests_more, tests_end}
use Rattle.board_places.proofs.low.Goals as goal

pub loop-i-init : goal.loop-i-init
loop-i-init c = tests_none _

pub loop-i-preserved : goal.loop-i-preserved
loop-i-preserved c = tests_more _ _ _ _ c.loop-i.invariant refl

pub returns : goal.returns
returns c =
    record {
      low = tests_end _ _ _ _ c.loop-i.auto.i-end c.loop-i-test.false c.loop-i.invariant
          ∙ all_rest _ _ _ c.requires.0 (key_none c.args.b.keys.now _ c.requires.1);
    }
