use Rattle.board_look_by_value.proofs.Inside.{body_inside}
use Rattle.answers.specs.Verdicts.{accepted_with, refusal_of}
use Rattle.answers.proofs.Results.{refused_numbered}
use Rattle.console_board.specs.BoardLines.{body_line}
use Rattle.console_state.proofs.Laws.{told_refused, told_accepted}
use Rattle.console_lines.specs.Lines.{form_line}
use Rattle.board_look_by_value.specs.ByValue.{body_by_value, body_form_by_value}
use lib.ListN.{length}
use mathlib.Core.Path.{ap, refl}
use native.Mathlib.Omega.{arith}
use Rattle.console_board.proofs.look.body.Goals as goal

pub returns-in-Err : goal.returns-in-Err
unfolding body_line
returns-in-Err c =
    let a = c.args in let e = c.in-Err.refusal in record {
      told = rw (← c.in-Err.ensures.number)
          (told_refused (refusal_of e) (form_line (body_form_by_value a.b a.store.now a.c.one) (body_by_value a.b a.store.now a.c.one))
          (refused_numbered e) (rw c.number.ensures.number at c.refusal.ensures.told));
    }

pub formed-requires : goal.formed-requires
formed-requires c =
    let a = c.args in
    omega (arith, ap length c.body-path.ensures.body, body_inside a.b a.store.now a.c.one)

pub returns : goal.returns
unfolding body_line
returns c =
    record {
      told = rw (← c.in_default.ensures.number, ← c.body_form-form.ensures.form, ← c.body-path.ensures.body)
          (told_accepted (accepted_with 0) (form_line c.body_form-form.result c.body-path.result.now) refl c.formed.ensures.told);
    }
