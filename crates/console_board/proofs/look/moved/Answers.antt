use Rattle.answers.specs.Verdicts.{refusal_of}
use Rattle.answers.proofs.Results.{refused_numbered}
use Rattle.console_board.specs.BoardLines.{moved_line}
use Rattle.console_state.proofs.Laws.{told_refused, told_accepted}
use Rattle.console_lines.specs.Lines.{one_line}
use mathlib.Core.Path.{◌≡◌, refl}
use mathlib.Core.Bool.{cond}
use borrow.Author.Rules.{rules}
use Rattle.board_rules.specs.Moved.{told_of}
use Rattle.std.proofs.Common.{Ok}
use Rattle.console_board.proofs.look.moved.Goals as goal

pub returns-in-Ok : goal.returns-in-Ok
unfolding moved_line
returns-in-Ok c =
    let v = told_of (Ok c.in-Ok.yes) in
    let n : c.from.result ≡ cond c.in-Ok.yes 1 0 = search rules in
    record { told = rw (← c.in-Ok.ensures.moved) (told_accepted v (one_line v.count) refl (rw n at c.one.ensures.told)) }

pub returns-in-Err : goal.returns-in-Err
unfolding moved_line
returns-in-Err c =
    let v = refusal_of c.in-Err.refusal in
    record { told = rw (← c.in-Err.ensures.moved) (told_refused v (one_line 0) (refused_numbered c.in-Err.refusal) (rw c.number.ensures.number at c.refusal.ensures.told)) }
