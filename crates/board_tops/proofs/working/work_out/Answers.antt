use Rattle.board_record.proofs.Tops.{tops_top, tops_are}
use Rattle.board_tops.proofs.Works.{worked_end}
use Rattle.board_tops.proofs.working.work_out.Goals as goal

pub returns-then-not-dropped : goal.returns-then-not-dropped
returns-then-not-dropped c =
    record { tops = tops_are c.args.versions.now c.args.tops.now c.told-tops (tops_top c.args.versions.now c.args.tops.now (c.requires c.if-not-dropped.true)) }

pub returns : goal.returns
returns c = record { tops = worked_end _ _ _ c.loop-g.invariant c.loop-g-test.false }
