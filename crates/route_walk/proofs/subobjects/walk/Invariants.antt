-- Two loops, two invariants: outside `Left`, what is left of the subobjects answers the whole; inside `Checking`, what is left of one's checks does.
-- Behind the checks the subobject is known to be of its expected length, so its strays are there to be looked at.
use Prim.Native.Nat.{◌≤◌, ◌-◌}
use lib.ListN.{length}
use Rattle.subobject.specs.Rules.{subject_at, rule_count, broken_by}
use Rattle.route_walk.specs.Walk.{walk_of}
use Rattle.route_walk.proofs.Laws.{Left, Checking, ending}
use Rattle.route_walk.proofs.subobjects.walk.Given as goal

abbrev pub invariant-loop-reason : goal.invariant-loop-reason
invariant-loop-reason l = (l.reason-index ≤ rule_count)
    × Checking (λ p. broken_by (subject_at l.form l.s l.ero l.n p)) l.s l.at l.next (ending l.form l.s l.ero l.count l.stray)
    (walk_of l.form l.s l.ero l.n l.count) l.reason-index

abbrev pub invariant-walk : goal.invariant-walk
invariant-walk l = (l.at ≤ length l.s)
    × Left (λ p. broken_by (subject_at l.form l.s l.ero l.n p)) l.s l.at (ending l.form l.s l.ero l.count l.stray) (walk_of l.form l.s l.ero l.n l.count)
    × (l.stray ≤ l.at)

abbrev pub decreases-walk : goal.decreases-walk
decreases-walk l = length l.s - l.at
