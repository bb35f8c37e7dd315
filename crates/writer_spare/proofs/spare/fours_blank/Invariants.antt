use Prim.Native.Nat.{◌*◌}
use mathlib.Core.Path.{◌≡◌}
use lib.ListN.{take}
use Rattle.writer_spare.specs.Spare.{zeros}
use Rattle.writer_spare.proofs.spare.fours_blank.Given as goal

abbrev pub invariant-loop-i : goal.invariant-loop-i
invariant-loop-i l = l.all ≡ zeros (take (4 * l.i) l.s)
