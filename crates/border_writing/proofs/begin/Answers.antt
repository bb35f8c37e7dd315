use Rattle.writer_state.specs.declared.Writer.{Writer}
use Rattle.writer_begin_finish.specs.Ends.{begin_answer, begin_buffer}
use Rattle.border_records.specs.Records.{is_yes}
use Rattle.border_writing.proofs.Laws.{by_writer}
use Rattle.border_writing.proofs.begin.Goals as goal

pub returns : goal.returns
returns c =
    let args = c.args in
    let b = args.buffer.now in
    let kind = is_yes args.ero in
    let told = by_writer (λ (w : Writer). begin_answer b w kind args.pst) (λ (w : Writer). begin_buffer b w kind) _ _ _ _ args.writer
    c.writer_in.ensures.writer c.begin-w.ensures.answer c.begin-w.ensures.buffer
    c.handed.ensures.handed in
    record { answer = told.0; octets = told.1 }
