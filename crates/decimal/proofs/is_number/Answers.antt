use Rattle.decimal.proofs.Laws.{some_number}
use Rattle.std.proofs.Common.{◌∙◌}
use Rattle.decimal.proofs.is_number.Goals as goal

pub returns : goal.returns
returns c = record { number = c.is_some.ensures ∙ some_number _ _ c.number.ensures.number }
