use native.Mathlib.Omega.{arith}
use mathlib.Core.Path.{sym, ◌∙◌}
use Rattle.subobject_strays.proofs.Laws.{unmarked_none, marked_one, ending_one}
use Rattle.subobject_strays.proofs.stray_of.Goals as goal

pub marked-requires : goal.marked-requires
marked-requires c = let pre = c.requires in (pre.0, pre.1)

pub returns-then-marked : goal.returns-then-marked
returns-then-marked c = let args = c.args in record { one = (marked_one args.form args.h args.s.now args.at (sym c.marked.ensures.marked ∙ c.if-marked.true), omega arith) }

pub ending_marked-requires : goal.ending_marked-requires
ending_marked-requires c = c.requires.2

pub returns-then-ending_marked : goal.returns-then-ending_marked
returns-then-ending_marked c = let args = c.args in
    record { one = (ending_one args.form args.h args.s.now args.at c.requires.2.0 (sym c.ending_marked.ensures.marked ∙ c.if-ending_marked.true), omega arith) }

pub returns : goal.returns
returns c =
    let args = c.args in record {
      one = (
        unmarked_none args.form args.h args.s.now args.at c.requires.2.0 (sym c.marked.ensures.marked ∙ c.if-marked.false)
            (sym c.ending_marked.ensures.marked ∙ c.if-ending_marked.false),
        omega arith,
      );
    }
