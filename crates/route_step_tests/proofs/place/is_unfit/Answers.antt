use Rattle.octets.specs.Octets.{octet_of}
use Rattle.route_step_tests.proofs.Laws.{unfit_unit, unfit_room, unfit_multiple, unfit_short}
use Rattle.route_step_tests.proofs.place.is_unfit.Goals as goal

pub returns-then-room-lt-UNIT : goal.returns-then-room-lt-UNIT
returns-then-room-lt-UNIT c = record { unfit = unfit_unit _ _ c.if-room-lt-UNIT.true }

pub returns-then-room-len : goal.returns-then-room-len
unfolding octet_of
returns-then-room-len c = record { unfit = rw (← c.from-len.ensures) (unfit_room _ _ c.if-room-len.true) }

pub returns-then-len-ne0 : goal.returns-then-len-ne0
unfolding octet_of
returns-then-len-ne0 c = record { unfit = rw (← c.from-len.ensures) (unfit_multiple _ _ c.if-len-ne0.true) }

pub returns : goal.returns
unfolding octet_of
returns c = record { unfit = rw (← c.from-len.ensures) (unfit_short _ _ c.if-room-len.false c.if-len-ne0.false) }
