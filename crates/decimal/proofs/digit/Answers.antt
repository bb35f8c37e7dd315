use Rattle.decimal.proofs.Laws.{digit_in, digit_low, digit_high}
use Rattle.std.proofs.Common.{◌∙◌, ap, arith, Some}
use Rattle.decimal.proofs.digit.Goals as goal

pub returns-in-48-to-57 : goal.returns-in-48-to-57
returns-in-48-to-57 c = record { digit = ap Some c.from.ensures ∙ digit_in _ (omega arith) (omega arith) }

pub returns-in_default : goal.returns-in_default
returns-in_default c = record { digit = digit_low _ (omega arith) }

pub returns-in_default-2 : goal.returns-in_default-2
returns-in_default-2 c = record { digit = digit_high _ (omega arith) }
