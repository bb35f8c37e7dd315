-- The outline is the one that came.
use mathlib.Core.Path.{◌∙◌, ap}
use Rattle.subobject.specs.declared.segment.Outline.{Outline}
use Rattle.subobject.specs.Segments.{segment_with}
use Rattle.writer.specs.Writing.{add_answer_in, add_buffer_in}
use Rattle.border_writing.proofs.added_in.Goals as goal

pub returns : goal.returns
returns g c = let a = c.args in let form = g.L.Layout.layout in let e = c.outline_in-outline.ensures.outline in
    record {
      answer = c.add_in.ensures.answer ∙ ap (λ (o : Outline). add_answer_in a.buffer.now form a.state (segment_with o a.sid.now a.nai.now a.structure.now)) e;
      octets = c.add_in.ensures.buffer ∙ ap (λ (o : Outline). add_buffer_in a.buffer.now form a.state (segment_with o a.sid.now a.nai.now a.structure.now)) e;
    }
