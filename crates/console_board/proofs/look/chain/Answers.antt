use lib.Seq.{length-take-le}
use mathlib.Core.Path.{sym}
use native.Mathlib.Omega.{arith}
use Rattle.console_board.proofs.look.chain.Goals as goal

pub slice_bounds-list-end : goal.slice_bounds-list-end
slice_bounds-list-end c = let along = c.along-n in sym (length-take-le along.result along.new.laid (omega (arith, along.ensures.within, c.laid-2-1.given)))

pub list-requires : goal.list-requires
list-requires c =
    let along = c.along-n in
    omega (
      arith,
      along.ensures.within,
      length-take-le along.result along.new.laid
          (omega (arith, along.ensures.within, c.laid-2-1.given)),
      c.requires,
    )

pub returns : goal.returns
returns c = record { told = rw c.along-n.ensures.named at c.list.ensures.told }
