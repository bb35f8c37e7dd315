use Rattle.decimal.specs.Decimal.{decimal_value}
use mathlib.Core.Path.{◌∙◌, ap}
use Rattle.command.proofs.number_at.Goals as goal

pub returns : goal.returns
returns c = record { number = c.value.ensures.value ∙ ap decimal_value c.word.ensures.word.0 }
