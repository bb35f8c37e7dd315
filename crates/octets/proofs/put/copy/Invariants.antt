use Rattle.octets.proofs.Laws.{copied}
use lib.ListN.{length}
use mathlib.Core.Path.{◌≡◌}
use Rattle.octets.proofs.put.copy.Given as goal

abbrev pub invariant-loop-i : goal.invariant-loop-i
invariant-loop-i l = (length l.out ≡ length l.initial.out) × (l.out ≡ copied l.initial.out l.src l.i)
