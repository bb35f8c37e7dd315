-- The form that is asked for is the one that the state names.
use mathlib.Core.Path.{◌∙◌, ap}
use Rattle.forms.specs.declared.Form.{Form}
use Rattle.forms.proofs.Laws.{form_mpls, form_srv6}
use Rattle.subobject.specs.Segments.{segment_with}
use Rattle.writer_layout.proofs.Forms.{srv6_readable, mpls_readable}
use Rattle.writer.specs.Writing.{add_answer_in, add_buffer_in}
use Rattle.border_segment.specs.Segments.{outline_in}
use Rattle.border_writing.proofs.added.Goals as goal

pub added_in-requires : goal.added_in-requires
added_in-requires c = mpls_readable

pub returns-then-state-eq-MPLS_SETUP : goal.returns-then-state-eq-MPLS_SETUP
returns-then-state-eq-MPLS_SETUP c = let a = c.args in let g = segment_with (outline_in a.outline) a.sid.now a.nai.now a.structure.now in
    let e = form_mpls a.state.form c.if-state-eq-MPLS_SETUP.true in
    record {
      answer = c.added_in.ensures.answer ∙ ap (λ (f : Form). add_answer_in a.buffer.now f a.state g) e;
      octets = c.added_in.ensures.octets ∙ ap (λ (f : Form). add_buffer_in a.buffer.now f a.state g) e;
    }

pub added_in-requires-2 : goal.added_in-requires-2
added_in-requires-2 c = srv6_readable

pub returns : goal.returns
returns c = let a = c.args in let g = segment_with (outline_in a.outline) a.sid.now a.nai.now a.structure.now in
    let e = form_srv6 a.state.form c.if-state-eq-MPLS_SETUP.false in
    record {
      answer = c.added_in-2.ensures.answer ∙ ap (λ (f : Form). add_answer_in a.buffer.now f a.state g) e;
      octets = c.added_in-2.ensures.octets ∙ ap (λ (f : Form). add_buffer_in a.buffer.now f a.state g) e;
    }
