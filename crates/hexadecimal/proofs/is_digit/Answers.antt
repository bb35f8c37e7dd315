use Rattle.hexadecimal.proofs.Laws.{hex_digit}
use Rattle.std.proofs.Common.{◌∙◌}
use Rattle.hexadecimal.proofs.is_digit.Goals as goal

pub returns : goal.returns
returns c = record { digit = c.is_some.ensures ∙ hex_digit _ _ c.digit.ensures.digit }
