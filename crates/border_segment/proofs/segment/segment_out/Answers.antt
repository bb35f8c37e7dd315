use Rattle.border_records.proofs.Laws.{bit_of}
use Rattle.border_segment.proofs.segment.segment_out.Goals as goal

pub returns : goal.returns
returns c =
    let g = c.args.g in
    let loose = bit_of g.loose c.from.ensures in
    let verify = bit_of g.verify c.from-2.ensures in
    let hassid = bit_of g.hassid c.from-3.ensures in
    let structured = bit_of g.structured c.from-4.ensures in
    let labelled = bit_of g.labelled c.from-5.ensures in
    let complete = bit_of g.complete c.from-6.ensures in
    record { segment = cc }
