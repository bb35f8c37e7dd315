use Rattle.subobject.specs.Rules.{rule30}
use Rattle.writer_tests.proofs.Laws.{no_label}
use Rattle.writer_tests.proofs.test.time_bad.Goals as goal

pub returns-else-labelled : goal.returns-else-labelled
unfolding rule30
returns-else-labelled c = record { bad = rw (no_label c.args.h c.args.labelled c.requires c.if-labelled.false) c.if-labelled.false }
