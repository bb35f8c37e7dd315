use Rattle.answers.specs.Verdicts.{carrying_both, refusal_of}
use Rattle.answers.proofs.Results.{refused_numbered}
use Rattle.console_lines.specs.Lines.{two_line}
use Rattle.console_state.specs.Answers.{count_line}
use Rattle.console_state.proofs.Laws.{told_refused, told_accepted}
use mathlib.Core.Path.{refl}
use Rattle.console_state.proofs.answer.counted.Goals as goal

pub returns-in-Ok : goal.returns-in-Ok
unfolding count_line
returns-in-Ok c =
    let k = c.in-Ok.c in
    record { told = rw c.in-Ok.is (told_accepted (carrying_both k.count k.stray) (two_line k.count k.stray) refl c.two.ensures.told) }

pub returns-in-Err : goal.returns-in-Err
unfolding count_line
returns-in-Err c =
    let e = c.in-Err.e in
    record { told = rw c.in-Err.is (told_refused (refusal_of e) (two_line 0 0) (refused_numbered e) (rw c.number.ensures.number at c.refusal.ensures.told)) }
