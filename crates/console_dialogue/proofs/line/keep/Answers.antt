use Rattle.console_dialogue.proofs.HearingLaws.{kept_more}
use native.Mathlib.Omega.{arith}
use borrow.Author.Rules.{rules}
use Rattle.console_dialogue.proofs.line.keep.Goals as goal

pub returns : goal.returns
returns c =
    let a = c.args in record {
      kept = kept_more a.line.now a.part.now c.lay.new.out a.kept c.fit-n.result
          c.requires c.fit-n.ensures.cut c.lay.ensures.laid;
      within = omega (arith, c.fit-n.ensures.cut, c.requires);
    }
