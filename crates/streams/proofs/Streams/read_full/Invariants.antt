-- The buffer's length stays, and what has been read so far stands at its start.
use Rattle.std.proofs.Common.{length, take, ◌-◌, ◌≡◌, ◌≤◌, IsOk, OnOk}
use Rattle.std.specs.Io.KnownBytes.{Consumes}
use Rattle.streams.proofs.Streams.read_full.Given as goal

abbrev pub invariant-loop-done : goal.invariant-loop-done
invariant-loop-done g l =
    (l.done ≤ length l.buf)
    × (length l.buf ≡ length l.initial.buf)
    × (l.self.to ≡ l.initial.self.to)
    × OnOk l.self.failed (Consumes (g.R.Read.remaining l.initial.self.from) (g.R.Read.remaining l.self.from) (take l.done l.buf))
    × OnOk l.self.failed (IsOk l.initial.self.failed)

abbrev pub decreases-loop-done : goal.decreases-loop-done
decreases-loop-done g l = length l.buf - l.done
