-- The invariant `Gone`: the places gone over are of subobjects of the form's type that break no rule, and the frame from `at` on stands behind them. A turn tests one
-- subobject more; at the object's end all is settled.
use Prim.Native.Nat.{◌≤◌, ◌-◌, ◌%◌}
use mathlib.Core.Path.{◌≡◌}
use lib.ListN.{length}
use Rattle.route_pass.proofs.Pass.{Gone}
use Rattle.route_pass.proofs.seeing.see.Given as goal

abbrev pub invariant-loop-at : goal.invariant-loop-at
invariant-loop-at g l = (4 ≤ l.at) × (l.at ≤ length l.s) × (l.at % 4 ≡ 0) × (l.count ≤ l.at) × (l.stray ≤ l.count) × Gone l.form l.s l.ero l.n l.at l.count l.stray

abbrev pub decreases-loop-at : goal.decreases-loop-at
decreases-loop-at g l = length l.s - l.at
