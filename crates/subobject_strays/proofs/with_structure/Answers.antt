use borrow.Author.Tests.{eq-eqb, ne_eqb}
use Rattle.octets.specs.Octets.{octet_of}
use Rattle.subobject_strays.proofs.Laws.{with_made}
use Rattle.subobject_strays.proofs.with_structure.Goals as goal

pub returns-then-fixed-ne0 : goal.returns-then-fixed-ne0
unfolding octet_of
returns-then-fixed-ne0 c = record { strays = with_made _ _ _ _ _ _ c.sum_three-more.ensures.sum (rw (ne_eqb c.args.fixed 0 c.if-fixed-ne0.true)) }

pub returns-else-fixed-ne0 : goal.returns-else-fixed-ne0
unfolding octet_of
returns-else-fixed-ne0 c = record { strays = with_made _ _ _ _ _ _ c.sum_three-more.ensures.sum (rw (eq-eqb c.args.fixed 0 c.if-fixed-ne0.false)) }
