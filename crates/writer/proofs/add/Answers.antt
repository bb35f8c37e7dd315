use mathlib.Core.Path.{◌≡◌, ◌∙◌, ap}
use Rattle.subobject.specs.Segments.{segment_with}
use Rattle.writer.specs.Writing.{add_answer, add_buffer}
use Rattle.writer.proofs.add.Goals as goal

pub returns : goal.returns
returns c =
    let args = c.args in let g = args.segment in let e : segment_with c.outline_of.result g.sid g.nai g.structure ≡ g = rw
    c.outline_of.ensures.outline in
    record { answer = c.add_lent.ensures.answer ∙ ap (add_answer args.buf.now args.writer) e; buffer = c.add_lent.ensures.buffer ∙ ap (add_buffer args.buf.now args.writer) e }
