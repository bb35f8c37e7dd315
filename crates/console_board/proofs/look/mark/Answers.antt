use Rattle.console_lines.specs.Lines.{two_line}
use Rattle.printing.specs.Text.{Behind}
use Rattle.board_rules.specs.declared.answer.Mark.{Mark}
use mathlib.Core.Path.{subst}
use Rattle.console_board.proofs.look.mark.Goals as goal

pub returns : goal.returns
returns c =
    record {
      told = subst
          (λ (m : Mark).
          Behind c.args.out.now c.two.new.out 0
          c.two.result (two_line m.s m.w)) c.fresh_mark-m.ensures.fresh
          c.two.ensures.told;
    }
