-- The walk over TLVs, and inside the first TLV 34 over its sub-TLVs. The loop keeps `Left`: the walk from the present place on, with what was
-- found before, gives the whole answer. The octets left fall with each turn and with the walk inside.
use Rattle.std.proofs.Common.{◌-◌, ◌≤◌, length}
use Rattle.octets.specs.Octets.{part}
use Rattle.tlvs.specs.Places.{value_at, Inside}
use Rattle.open_walk.specs.Walk.{Listed, open_walk}
use Rattle.open_walk.proofs.Laws.{Left}
use Rattle.open_walk.proofs.+walk.Given as goal

abbrev pub decreases-walk : goal.decreases-walk
decreases-walk l = l.end - l.start

abbrev pub invariant-loop-at : goal.invariant-loop-at
invariant-loop-at l = (l.start ≤ l.at) × Listed l.s l.list × Inside l.sub (length l.s)
    × Left l.inner l.want l.s l.at l.end (value_at l.s l.list) (value_at l.s l.sub) (open_walk (part l.s l.start (l.end - l.start)) l.inner l.want)

abbrev pub decreases-loop-at : goal.decreases-loop-at
decreases-loop-at l = l.end - l.at
