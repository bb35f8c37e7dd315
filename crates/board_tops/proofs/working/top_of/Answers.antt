use Rattle.board_tops.proofs.Works.{max_none, max_more, max_end}
use Rattle.board_tops.proofs.working.top_of.Goals as goal

pub loop-j-init : goal.loop-j-init
loop-j-init c = max_none _

pub loop-j-preserved : goal.loop-j-preserved
loop-j-preserved c = max_more _ _ _ _ c.loop-j.invariant c.max-top.ensures

pub returns : goal.returns
returns c = record { top = max_end _ _ _ _ c.loop-j.auto.j-end c.loop-j-test.false c.loop-j.invariant }
