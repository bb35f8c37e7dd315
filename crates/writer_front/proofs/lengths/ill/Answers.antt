use Rattle.writer_front.proofs.Laws.{ill_labelled, ill_other}
use Rattle.writer_front.proofs.lengths.ill.Goals as goal

pub returns-then-o : goal.returns-then-o
returns-then-o g c = record { ill = ill_labelled g.L.Layout.layout c.args.o c.if-o.true }

pub returns-else-o : goal.returns-else-o
returns-else-o g c = record { ill = ill_other g.L.Layout.layout c.args.o c.if-o.false }
