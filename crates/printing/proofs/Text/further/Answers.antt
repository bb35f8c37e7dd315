use Rattle.printing.proofs.Laws.{behind_none, then, further_more}
use Rattle.printing.specs.Text.{further_text}
use Rattle.std.proofs.Common.{◌∙◌, refl, arith}
use Rattle.printing.proofs.Text.further.Goals as goal

pub loop-x-init : goal.loop-x-init
unfolding further_text
loop-x-init c = record { same_reference = refl; ends = omega arith; fits = omega arith; text = behind_none _ _ }

pub loop-x-preserved : goal.loop-x-preserved
loop-x-preserved c = record {
  same_reference = c.number.ensures.same_reference ∙ c.push.ensures.same_reference ∙ c.loop-x.invariant.same_reference;
  ends = omega (arith, c.push.ensures.behind.ends, c.number.ensures.short);
  fits = c.loop-x.invariant.fits;
  text = rw (← further_more c.args.s.now c.loop-x.x-index _ c.loop-x-test.true c.from.ensures)
      (then c.loop-x.invariant.text (then c.push.ensures.behind c.number.ensures.behind));
}
