use Prim.Native.Nat.{◌≤◌, ◌-◌, ◌*◌}
use mathlib.Core.Path.{◌≡◌}
use mathlib.Core.Bool.{true}
use Rattle.board_record.specs.Sizes.{group, groups}
use Rattle.board_record.specs.Tops.{in_tops}
use Rattle.board_moved.proofs.Ranges.{Still}
use Rattle.board_moved.proofs.range.any_moved.Given as goal

abbrev pub invariant-loop-g : goal.invariant-loop-g
invariant-loop-g l = (l.g ≤ groups) × (in_tops l.b.versions.now l.b.tops.now ≡ true) × Still l.b.keys.now l.b.versions.now l.from l.to l.v (group * l.g)
