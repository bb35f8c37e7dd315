use mathlib.Core.Path.{◌∙◌}
use Prim.Native.Nat.{◌+◌, ◌*◌}
use mathlib.Core.List.{[], ◌∷◌}
use lib.ListN.{length-set}
use lib.Seq.{sets-eq}
use native.Mathlib.Omega.{arith}
use Rattle.octets.specs.Octets.{over}
use Rattle.writer_fixed.proofs.head.four.Goals as goal

pub bounds-out-1 : goal.bounds-out-1
bounds-out-1 g c = simp length-set (omega arith)

pub bounds-out-2 : goal.bounds-out-2
bounds-out-2 g c = simp length-set (omega arith)

pub returns : goal.returns
unfolding over
returns g c =
    let a = c.args in let h = a.h in record {
      four = sets-eq ((h.l * 128 + c.from.result) ∷ a.size ∷ (h.nt * 16) ∷ c.flags.result ∷ []) a.out.now 0 c.requires.3
          ∙ rw (c.flags.ensures.flags, c.from.ensures, c.form-form.ensures.form, ← c.requires.1, c.requires.2);
    }
