use Rattle.subobject_parts.proofs.Pieces.{no_run}
use borrow.Author.Rules.{rules}
use Rattle.subobject_parts.proofs.eights.of_8.Goals as goal

pub more-requires : goal.more-requires
more-requires g c = (search rules, (search rules, search rules, no_run _ _ _))
