use borrow.Author.Tests.{eq-eqb}
use Rattle.frame.specs.Gathered.{seen_of}
use Rattle.frame.proofs.Laws.{seen_more}
use Rattle.frame.proofs.gathering.seen.Goals as goal

pub returns-then-k-first : goal.returns-then-k-first
unfolding seen_of
returns-then-k-first c = record { seen = rw (eq-eqb _ _ c.if-k-first.true); placed = c.requires.2 }

pub returns-then-g-clause-seen : goal.returns-then-g-clause-seen
returns-then-g-clause-seen c = seen_more c.args.g _ _ _ _ _ _ c.if-k-first.false (rw c.if-g.true) c.requires.2 c.or.ensures

pub returns-else-g-clause-seen : goal.returns-else-g-clause-seen
returns-else-g-clause-seen c = seen_more c.args.g _ _ _ _ _ _ c.if-k-first.false (rw c.if-g.false) c.requires.2 c.or.ensures
