use Prim.Native.Nat.{◌≤◌, ◌-◌}
use lib.ListN.{get_or, length}
use Rattle.frame.specs.Frames.{apart_of}
use Rattle.frame.proofs.Laws.{Going}
use Rattle.frame.proofs.place.nth.Given as goal

abbrev pub invariant-loop-k : goal.invariant-loop-k
invariant-loop-k l = (l.at ≤ length l.s) × Going l.s l.at (l.i - l.k) (get_or (apart_of l.s).places l.i 0)
