use Rattle.hexadecimal.proofs.Laws.{worth_digit}
use Rattle.std.proofs.Common.{◌∙◌, arith}
use Rattle.hexadecimal.proofs.worth.Goals as goal

pub returns : goal.returns
returns c = let e = c.unwrap_or.ensures ∙ worth_digit _ _ c.digit.ensures.digit in record { worth = (e, omega arith) }
