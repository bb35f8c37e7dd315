use Prim.Native.Nat.{◌≤◌}
use mathlib.Core.Path.{◌≡◌}
use lib.Dec.{eqb}
use lib.ListN.{get_or}
use Rattle.board_record.specs.Lists.{count_below}
use Rattle.board_unnamed.proofs.unborn.Given as goal

abbrev pub invariant-loop-i : goal.invariant-loop-i
invariant-loop-i l = (l.n ≤ l.i) × (l.n ≡ count_below (λ j. eqb (get_or l.b.versions.now j 0) 0) l.i)
