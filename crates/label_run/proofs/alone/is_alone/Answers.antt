use native.Mathlib.Omega.{arith}
use Prim.Native.Nat.{◌+◌}
use mathlib.Core.Bool.{false≢true}
use Rattle.label_run.proofs.Laws.{alone_of}
use Rattle.label_run.proofs.alone.is_alone.Goals as goal

pub returns-then-read16-ne-ALONE : goal.returns-then-read16-ne-ALONE
returns-then-read16-ne-ALONE c = record { alone = λ e. absurd (false≢true e) }

pub returns : goal.returns
returns c =
    let known = c.shared_slice_known-1.given in let args = c.args in record {
      alone = λ e. alone_of args.s.now args.at _ _ (omega (arith, known args.at)) (omega (arith, known (args.at + 1))) (omega (arith, known (args.at + 2))) (omega (arith, known (args.at + 2 + 1)))
          c.read16.ensures.number.0 c.read16-2.ensures.number.0 c.if-read16-ne-ALONE.false (c.label_good.ensures.good e);
    }
