use mathlib.Core.Path.{sym, ◌∙◌}
use Rattle.board_record.specs.Lent.{table_lent}
use Rattle.board_record.proofs.Search.{floor_keeps, floor_takes, floor_drops}
use Rattle.board_search.proofs.report.floor_after.Goals as goal
use Rattle.board_search.proofs.report.floor_after.Goals.{then-old-eq0-via-then-old-eq0, then-old-eq0-via-else-old-eq0+then-old-key}

pub returns-then-old-eq0 : goal.returns-then-old-eq0
returns-then-old-eq0 c =
    let t = table_lent c.args.b in
    record {
      floor = elim c.then-old-eq0.branch [
        | then-old-eq0-via-then-old-eq0 w ↦ sym (floor_takes t c.args.key c.args.at (sym c.from-old.ensures ∙ w.if-old-eq0.true))
        | then-old-eq0-via-else-old-eq0+then-old-key w ↦ sym (floor_keeps t c.args.key c.args.at (sym c.from-old.ensures ∙ w.if-old-key.true))
      ];
    }

pub returns : goal.returns
returns c =
    record {
      floor = sym
          (floor_drops (table_lent c.args.b) c.args.key c.args.at (λ e. c.if-old-eq0.false (c.from-old.ensures ∙ e))
          (λ e. c.if-old-key.false (c.from-old.ensures ∙ e)));
    }
