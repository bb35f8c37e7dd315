use Rattle.writer_begin_finish.specs.Ends.{finish_answer, finish_buffer}
use Rattle.border_writing.proofs.Laws.{by_writer}
use Rattle.border_writing.proofs.finish.Goals as goal

pub returns : goal.returns
returns c =
    let b = c.args.buffer.now in
    let told = by_writer (finish_answer b) (finish_buffer b) _ _ _ _ c.args.writer c.writer_in.ensures.writer c.finish.ensures.answer
    c.finish.ensures.buffer c.written_out.ensures.written in
    record { answer = told.0; octets = told.1 }
