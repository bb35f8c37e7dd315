use Rattle.printing.proofs.Laws.{behind_none, then, hex_more}
use Rattle.printing.specs.Text.{hex_of}
use Rattle.std.proofs.Common.{◌∙◌, refl, arith}
use Rattle.printing.proofs.Text.pairs.Goals as goal

pub loop-x-init : goal.loop-x-init
unfolding hex_of
loop-x-init c = record { same_reference = refl; ends = omega arith; fits = omega arith; text = behind_none _ _ }

pub loop-x-preserved : goal.loop-x-preserved
loop-x-preserved c = record {
  same_reference = c.push.ensures.same_reference ∙ c.loop-x.invariant.same_reference;
  ends = omega (arith, c.push.ensures.behind.ends);
  fits = c.loop-x.invariant.fits;
  text = rw (
    ← hex_more c.args.s.now c.loop-x.x-index c.loop-x-test.true,
    ← c.glyph.ensures.glyph,
    ← c.glyph-in-loop-x.ensures.glyph,
  ) (then c.loop-x.invariant.text c.push.ensures.behind);
}
