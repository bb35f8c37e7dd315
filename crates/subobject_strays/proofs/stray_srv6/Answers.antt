use native.Mathlib.Omega.{arith}
use mathlib.Core.Path.{sym, ◌∙◌}
use Rattle.forms.specs.Forms.{srv6_form}
use Rattle.subobject_strays.proofs.Laws.{unmarked_none, marked_one, ending_one}
use Rattle.subobject_strays.proofs.stray_srv6.Goals as goal

pub marked_srv6-requires : goal.marked_srv6-requires
marked_srv6-requires c = c.requires.0

pub returns-then-marked_srv6 : goal.returns-then-marked_srv6
returns-then-marked_srv6 c = let args = c.args in record { one = (marked_one srv6_form args.h args.s.now args.at (sym c.marked_srv6.ensures.marked ∙ c.if-marked_srv6.true), omega arith) }

pub ending_marked-requires : goal.ending_marked-requires
ending_marked-requires c = let pre = c.requires in (rw c.srv6.ensures.form pre.1.0, pre.1.1)

pub returns-then-ending_marked : goal.returns-then-ending_marked
returns-then-ending_marked c = let args = c.args in
    record { one = (ending_one srv6_form args.h args.s.now args.at c.requires.1.0 (sym c.ending_marked.ensures.marked ∙ c.if-ending_marked.true), omega arith) }

pub returns : goal.returns
returns c =
    let args = c.args in record {
      one = (
        unmarked_none srv6_form args.h args.s.now args.at c.requires.1.0
            (sym c.marked_srv6.ensures.marked ∙ c.if-marked_srv6.false) (sym c.ending_marked.ensures.marked ∙ c.if-ending_marked.false),
        omega arith,
      );
    }
