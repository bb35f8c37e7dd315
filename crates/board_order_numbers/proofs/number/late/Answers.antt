use Rattle.std.proofs.Common.{◌∙◌, lt-ltb, le-ltb}
use Rattle.board_order_numbers.proofs.Numbers.{not_late, late_low, late_above}
use Rattle.board_order_numbers.proofs.number.late.Goals as goal

pub returns-then-bound-v : goal.returns-then-bound-v
returns-then-bound-v c = record { late = lt-ltb _ _ c.if-bound-v.true ∙ late_above _ _ _ _ c.requires.1 c.if-bound-v.true }

pub returns-then-last-v : goal.returns-then-last-v
returns-then-last-v c = record { late = late_low _ _ _ _ c.if-bound-v.false c.if-last-v.true }

pub returns-else-last-v : goal.returns-else-last-v
returns-else-last-v c = record { late = le-ltb _ _ c.if-last-v.false ∙ not_late _ _ _ _ c.if-last-v.false }
