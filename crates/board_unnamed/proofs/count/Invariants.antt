use Prim.Native.Nat.{ℕ, ◌<◌, ◌≤◌}
use mathlib.Core.Path.{◌≡◌}
use mathlib.Core.Bool.{Bool}
use Rattle.board_record.specs.Lists.{count_below}
use Rattle.board_unnamed.proofs.count.Given as goal

abbrev pub invariant-loop-i : goal.invariant-loop-i
invariant-loop-i g l =
    (l.n ≤ l.i) × ((t : ℕ → Bool) → ((i : ℕ) (r : Bool) → i < l.m → goal.F-post g l.passes i r → r ≡ t i) → l.n ≡ count_below t l.i)
