use Rattle.writer_spare.proofs.Laws.{fours_none, fours_more, fours_end}
use Rattle.writer_spare.proofs.spare.fours_blank.Goals as goal

pub loop-i-init : goal.loop-i-init
loop-i-init c = fours_none c.args.s.now

pub loop-i-preserved : goal.loop-i-preserved
loop-i-preserved c = fours_more _ _ _ c.loop-i.invariant c.four.ensures.four

pub returns : goal.returns
returns c = record { blank = fours_end _ _ _ _ c.loop-i.auto.i-end c.loop-i-test.false c.loop-i.invariant }
