use Prim.Native.Nat.{◌≤◌, ◌<◌, ◌-◌, ◌+◌, ◌*◌}
use mathlib.Core.Path.{◌≡◌}
use mathlib.Core.Bool.{false}
use Rattle.board_record.specs.Sizes.{group, groups}
use Rattle.board_record.specs.Lists.{any_below}
use Rattle.board_record.specs.Search.{moved_b}
use Rattle.board_moved.proofs.range.in_group.Given as goal

abbrev pub invariant-loop-j : goal.invariant-loop-j
invariant-loop-j l = (l.g < groups) × (l.j ≤ group) × (any_below (λ k. moved_b l.b.keys.now l.b.versions.now l.from l.to l.v (group * l.g + k)) l.j ≡ false)
