-- The invariant `Looking`: what was gathered up to `at`, with what the rest of the frame gives, is what the whole frame gives.
use Prim.Native.Nat.{◌≤◌, ◌-◌, ◌%◌}
use mathlib.Core.Path.{◌≡◌}
use lib.ListN.{length}
use Rattle.frame.specs.Gathered.{Placed, gathered, facts_of}
use Rattle.frame.proofs.Laws.{Looking}
use Rattle.frame.proofs.gathering.look.Given as goal

abbrev pub invariant-loop-at : goal.invariant-loop-at
invariant-loop-at l = (4 ≤ l.at) × (l.at ≤ length l.s) × (l.at % 4 ≡ 0) × (l.g.count ≤ l.at) × Placed l.g.other × Looking l.s l.ero l.kind l.first l.at (gathered l.g) (facts_of l.s l.ero l.kind)

abbrev pub decreases-loop-at : goal.decreases-loop-at
decreases-loop-at l = length l.s - l.at
