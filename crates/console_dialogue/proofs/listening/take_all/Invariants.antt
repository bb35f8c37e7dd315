-- A walk over what was read: what is left of it, heard from here on, gives the whole. All lent lengths stay.
use Rattle.console_dialogue.specs.Input.{heard_of, hear_all}
use lib.ListN.{length, drop}
use mathlib.Core.Path.{◌≡◌}
use Prim.Native.Nat.{◌≤◌, ◌-◌}
use Rattle.console_dialogue.proofs.listening.take_all.Given as goal

abbrev pub invariant-loop-at : goal.invariant-loop-at
invariant-loop-at g l =
    (l.at ≤ length l.read)
    × (length l.line ≡ length l.initial.line)
    × (length l.store ≡ length l.initial.store)
    × (length l.memory ≡ length l.initial.memory)
    × (length l.room ≡ length l.initial.room)
    × (length l.out ≡ length l.initial.out)
    × (l.heard.kept ≤ length l.initial.line)
    × (hear_all (heard_of l.heard l.store l.memory l.line) (drop l.at l.read) ≡ hear_all (heard_of l.initial.heard l.initial.store l.initial.memory l.initial.line) l.read)

abbrev pub decreases-loop-at : goal.decreases-loop-at
decreases-loop-at g l = length l.read - l.at
