use native.Mathlib.Omega.{arith}
use Rattle.subobject_parts.proofs.Pieces.{more_laid}
use Rattle.subobject_parts.proofs.eights.more.Goals as goal

pub returns : goal.returns
returns g c =
    record {
      more = more_laid c.args.s.now _ _ c.args.at c.args.i 8 _ (omega (arith, c.requires.0)) (omega (arith, c.requires.1)) c.requires.2
          c.lay.ensures.laid;
    }
