use Rattle.border_records.proofs.Laws.{bit_of}
use Rattle.border_segment.proofs.picking.picked_out.Goals as goal

pub returns-in-Ok : goal.returns-in-Ok
returns-in-Ok c =
    let reserved = bit_of c.in-Ok.picked.strays.reserved c.from.ensures in
    record { picked = rw (c.in-Ok.is, c.answer_out.ensures.answer, c.segment_out.ensures.segment, reserved) }

pub returns-in-Err : goal.returns-in-Err
returns-in-Err c = record { picked = rw (c.in-Err.is, c.answer_out-in-Err.ensures.answer, c.segment_out-in-Err.ensures.segment, c.no_segment.ensures.zeros) }
