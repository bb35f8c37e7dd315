use lib.Seq.{length-take-le}
use mathlib.Core.Path.{sym}
use Rattle.cut_objects.proofs.first.Goals as goal

pub slice_bounds-result-end : goal.slice_bounds-result-end
slice_bounds-result-end c = sym (length-take-le c.cut-n.result c.args.s.now c.cut-n.ensures.cut.1)

pub returns : goal.returns
returns c = record { first = rw c.cut-n.ensures.cut.0 }
