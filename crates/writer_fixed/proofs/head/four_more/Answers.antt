use mathlib.Core.Path.{◌∙◌}
use mathlib.Core.List.{[], ◌∷◌, append_assoc}
use lib.ListN.{length-set}
use lib.Seq.{sets-eq, drop-drop}
use native.Mathlib.Omega.{arith}
use Rattle.octets.specs.Octets.{hi, lo, over, placed}
use Rattle.writer_fixed.proofs.head.four_more.Goals as goal

pub bounds-out-5 : goal.bounds-out-5
bounds-out-5 c = simp length-set (omega arith)

pub bounds-out-6 : goal.bounds-out-6
bounds-out-6 c = simp length-set (omega arith)

pub returns : goal.returns
unfolding placed over
returns c =
    record {
      four = sets-eq (0 ∷ 0 ∷ hi c.args.behaviour ∷ lo c.args.behaviour ∷ []) c.args.out.now 4 c.requires
          ∙ rw (append_assoc, drop-drop 4 4 c.args.out.now);
    }
