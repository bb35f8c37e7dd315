-- The invariant: the first i places are swept, the others as they were, and nothing changed so far if nothing was dropped. A turn empties a place (`sweep_take`) or
-- passes it (`sweep_skip`).
use Prim.Native.Nat.{◌≤◌, ◌-◌}
use mathlib.Core.Path.{◌≡◌}
use mathlib.Core.Bool.{false}
use Rattle.board_sweep.proofs.Sweeps.{Sweeping}
use Rattle.board_sweep.proofs.sweeping.sweep.Given as goal

abbrev pub invariant-loop-i : goal.invariant-loop-i
invariant-loop-i l = (l.i ≤ 128) × Sweeping l.initial.keys l.initial.versions l.lengths l.c l.i l.keys l.versions × (l.dropped ≡ false → (l.keys ≡ l.initial.keys) × (l.versions ≡ l.initial.versions))
