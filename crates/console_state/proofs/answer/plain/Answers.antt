use Rattle.answers.specs.Verdicts.{accepted_with, refusal_of}
use Rattle.answers.proofs.Results.{refused_numbered}
use Rattle.console_lines.specs.Lines.{done_line}
use Rattle.console_state.specs.Answers.{plain_line}
use Rattle.console_state.proofs.Laws.{told_refused, told_accepted}
use mathlib.Core.Path.{refl}
use Rattle.console_state.proofs.answer.plain.Goals as goal

pub returns-in-Ok : goal.returns-in-Ok
unfolding plain_line
returns-in-Ok c = record { told = rw c.in-Ok.is (told_accepted (accepted_with 0) done_line refl c.done.ensures.told) }

pub returns-in-Err : goal.returns-in-Err
unfolding plain_line
returns-in-Err c =
    let e = c.in-Err.refusal in
    record { told = rw c.in-Err.is (told_refused (refusal_of e) done_line (refused_numbered e) (rw c.number.ensures.number at c.refusal.ensures.told)) }
