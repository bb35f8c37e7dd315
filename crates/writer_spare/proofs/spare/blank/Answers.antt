use Rattle.writer_spare.proofs.Laws.{split_true, split_false}
use Rattle.writer_spare.proofs.spare.blank.Goals as goal

pub returns-then-fours_blank : goal.returns-then-fours_blank
returns-then-fours_blank c = record { blank = split_true c.args.s.now _ _ _ c.fours_blank.ensures.blank c.if-fours_blank.true c.each_blank.ensures.blank }

pub returns-else-fours_blank : goal.returns-else-fours_blank
returns-else-fours_blank c = record { blank = split_false c.args.s.now _ _ c.fours_blank.ensures.blank c.if-fours_blank.false }
