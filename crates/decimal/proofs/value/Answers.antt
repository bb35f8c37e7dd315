use Rattle.decimal.proofs.Laws.{which_number}
use Rattle.std.proofs.Common.{◌∙◌}
use Rattle.decimal.proofs.value.Goals as goal

pub returns : goal.returns
returns c = record { value = c.unwrap_or.ensures ∙ which_number _ _ c.number.ensures.number }
