use native.Mathlib.Omega.{arith}
use Rattle.subobject_strays.proofs.MaskLaws.{masked_marks}
use Rattle.subobject_strays.proofs.marked_srv6.Goals as goal

pub returns : goal.returns
returns c = record { marked = masked_marks c.args.s.now c.args.at (λ i. omega (arith, c.shared_slice_known-1.given i)) c.four.ensures.four }
