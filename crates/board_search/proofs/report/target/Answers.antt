use native.Mathlib.Omega.{arith}
use Rattle.board_record.specs.Lent.{table_lent}
use Rattle.board_search.proofs.Targets.{target_known, target_free, target_oldest}
use Rattle.board_search.proofs.report.target.Goals as goal

pub returns-in-Some-clause-target : goal.returns-in-Some-clause-target
returns-in-Some-clause-target c = target_known (table_lent c.args.b) c.args.key _ c.in-Some.ensures.place c.in-Some.ensures.within

pub returns-in-Some-place_in-clause-target : goal.returns-in-Some-place_in-clause-target
returns-in-Some-place_in-clause-target c =
    target_free (table_lent c.args.b) c.args.key _ _ c.in_default.ensures.place (omega arith) c.in-Some-place_in.ensures.place c.in-Some-place_in.ensures.within

pub returns-clause-target : goal.returns-clause-target
returns-clause-target c =
    target_oldest (table_lent c.args.b) c.args.key _ _ _ c.in_default.ensures.place (omega arith) c.in_default-place_in.ensures.place (omega arith)
    c.oldest.ensures.oldest
