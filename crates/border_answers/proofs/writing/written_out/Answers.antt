use Rattle.border_records.proofs.Laws.{bit_of}
use Rattle.border_answers.proofs.writing.written_out.Goals as goal

pub returns : goal.returns
returns c = let ero = bit_of c.args.w.writer.ero c.from.ensures in record { written = cc }
