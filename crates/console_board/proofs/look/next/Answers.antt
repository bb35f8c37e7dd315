-- One case for each thing that next hands out; the octets of a path lie in the store (`path_inside`).
use Rattle.board_rules.proofs.Inside.{length_part_most}
use Rattle.board_look_by_value.proofs.Inside.{path_inside}
use Rattle.console_board.specs.BoardLines.{next_line}
use Prim.Native.Nat.{◌*◌}
use lib.ListN.{length}
use mathlib.Core.Path.{ap, sym}
use native.Mathlib.Omega.{arith}
use Rattle.console_board.proofs.look.next.Goals as goal

pub named-requires : goal.named-requires
named-requires c =
    let a = c.args in
    path_inside a.b a.store.now a.c.one a.c.two
    (sym (rw c.in-Ok-Path.field-0-is at c.in-Ok-Path.ensures.next))

pub path-requires : goal.path-requires
path-requires c =
    let a = c.args in
    omega (
      arith,
      ap length c.named.ensures.named,
      length_part_most a.store.now (384 * c.in-Ok-Path.path.place)
          c.in-Ok-Path.path.length,
    )

pub returns-in-Err : goal.returns-in-Err
unfolding next_line
returns-in-Err c = record { told = rw (← c.in-Err.ensures.next) (rw c.number.ensures.number at c.refusal.ensures.told) }

pub returns-in-Ok-Path : goal.returns-in-Ok-Path
unfolding next_line
returns-in-Ok-Path c = record { told = rw (← (rw c.in-Ok-Path.field-0-is at c.in-Ok-Path.ensures.next), ← c.named.ensures.named) c.path.ensures.told }

pub returns-in-Ok-Removed : goal.returns-in-Ok-Removed
unfolding next_line
returns-in-Ok-Removed c = record { told = rw (← (rw c.in-Ok-Removed.field-0-is at c.in-Ok-Removed.ensures.next)) c.removed.ensures.told }

pub returns-in-Ok-Level : goal.returns-in-Ok-Level
unfolding next_line
returns-in-Ok-Level c = record { told = rw (← (rw c.in-Ok-Level.field-0-is at c.in-Ok-Level.ensures.next)) c.level.ensures.told }
