-- The invariant: the lent lengths stay, what is kept of a line lies within it, and some input leaves the console as it stands.
use Rattle.console_dialogue.specs.Reached.{Reached}
use Rattle.console_dialogue.specs.Input.{heard_of}
use lib.ListN.{length}
use mathlib.Core.Path.{◌≡◌}
use Prim.Native.Nat.{◌≤◌}
use Rattle.console_dialogue.proofs.listening.go_on.Given as goal

abbrev pub invariant-loop-turns : goal.invariant-loop-turns
invariant-loop-turns g l =
    (length l.line ≡ length l.initial.line)
    × (length l.store ≡ length l.initial.store)
    × (length l.memory ≡ length l.initial.memory)
    × (length l.room ≡ length l.initial.room)
    × (length l.out ≡ length l.initial.out)
    × (l.h.kept ≤ length l.initial.line)
    × Reached (heard_of l.h l.store l.memory l.line)

abbrev pub decreases-loop-turns : goal.decreases-loop-turns
decreases-loop-turns g l = l.turns
