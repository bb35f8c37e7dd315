use Rattle.answers.specs.Verdicts.{refusal_of, accepted_with}
use Rattle.answers.proofs.Results.{numbered}
use Rattle.console_writer.specs.WriterLines.{place_line}
use Rattle.console_state.proofs.Laws.{told_refused, told_accepted}
use Rattle.console_lines.specs.Lines.{one_line}
use mathlib.Core.Path.{refl}
use Rattle.console_writer.proofs.wrote.placed.Goals as goal

pub returns-in-Err : goal.returns-in-Err
unfolding place_line
returns-in-Err c =
    let e = c.in-Err.refusal in
    record {
      told = rw c.in-Err.is
          (told_refused (refusal_of e) (one_line c.args.w.writer.at) (numbered e.reason) (rw c.number.ensures.number at c.refusal.ensures.told));
    }

pub returns-in-Ok : goal.returns-in-Ok
unfolding place_line
returns-in-Ok c = record { told = rw c.in-Ok.is (told_accepted (accepted_with 0) (one_line c.args.w.writer.at) refl c.one.ensures.told) }
