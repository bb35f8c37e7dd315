use Rattle.answers.specs.Verdicts.{refusal_of, accepted_with}
use Rattle.answers.proofs.Results.{numbered}
use Rattle.console_writer.specs.WriterLines.{finish_line}
use Rattle.console_state.proofs.Laws.{told_refused, told_accepted, take_fit}
use Rattle.console_lines.specs.Lines.{octets_line}
use lib.ListN.{take}
use mathlib.Core.Path.{refl}
use Rattle.console_writer.proofs.end.close.Goals as goal

pub returns-in-Err : goal.returns-in-Err
unfolding finish_line
returns-in-Err c =
    let w = c.finish-w in
    let e = c.in-Err.refusal in
    record {
      writer = rw (← w.ensures.answer);
      buffer = w.ensures.buffer;
      told = rw (← w.ensures.answer, ← w.ensures.buffer, c.in-Err.is)
          (told_refused (refusal_of e) (octets_line (take w.result.writer.at w.new.buf))
          (numbered e.reason) (rw c.number.ensures.number at c.refusal.ensures.told));
    }

pub returns-in-Ok : goal.returns-in-Ok
unfolding finish_line
returns-in-Ok c =
    let w = c.finish-w in
    record {
      writer = rw (← w.ensures.answer);
      buffer = w.ensures.buffer;
      told = rw (
        ← w.ensures.answer,
        ← w.ensures.buffer,
        c.in-Ok.is,
        ← take_fit w.result.writer.at w.new.buf c.fit-n.ensures.cut,
      )
          (told_accepted (accepted_with 0) (octets_line (take c.fit-n.result w.new.buf))
          refl c.octets.ensures.told);
    }
