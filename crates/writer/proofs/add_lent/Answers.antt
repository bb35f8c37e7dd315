use mathlib.Core.Path.{◌∙◌, ap}
use Rattle.forms.specs.declared.Form.{Form}
use Rattle.forms.proofs.Laws.{form_mpls, form_srv6}
use Rattle.writer_spare.specs.Lending.{lent_of}
use Rattle.writer_layout.proofs.Forms.{srv6_readable, mpls_readable}
use Rattle.writer.specs.Writing.{add_answer_in, add_buffer_in}
use Rattle.writer.proofs.add_lent.Goals as goal

pub add_in-requires : goal.add_in-requires
add_in-requires c = mpls_readable

pub returns-then-writer-eq-MPLS_SETUP : goal.returns-then-writer-eq-MPLS_SETUP
returns-then-writer-eq-MPLS_SETUP c = let a = c.args in
    let e = form_mpls a.writer.form c.if-writer-eq-MPLS_SETUP.true in
    record {
      answer = c.add_in.ensures.answer ∙ ap (λ (f : Form). add_answer_in a.buf.now f a.writer (lent_of a.x)) e;
      buffer = c.add_in.ensures.buffer ∙ ap (λ (f : Form). add_buffer_in a.buf.now f a.writer (lent_of a.x)) e;
    }

pub add_in-requires-2 : goal.add_in-requires-2
add_in-requires-2 c = srv6_readable

pub returns : goal.returns
returns c = let a = c.args in
    let e = form_srv6 a.writer.form c.if-writer-eq-MPLS_SETUP.false in
    record {
      answer = c.add_in-2.ensures.answer ∙ ap (λ (f : Form). add_answer_in a.buf.now f a.writer (lent_of a.x)) e;
      buffer = c.add_in-2.ensures.buffer ∙ ap (λ (f : Form). add_buffer_in a.buf.now f a.writer (lent_of a.x)) e;
    }
