use Rattle.printing.proofs.Laws.{digits_decimal, fewest_20}
use Rattle.std.proofs.Common.{◌∙◌, arith}
use Rattle.printing.proofs.Text.number.Goals as goal

pub returns-clause-behind : goal.returns-clause-behind
returns-clause-behind c =
    let k = fewest_20 c.args.n c.decimal-k.result (omega arith) c.decimal-k.ensures.len in
    let e = c.decimal-k.ensures.digits ∙ digits_decimal c.decimal-k.result c.args.n k c.decimal-k.ensures.len in
    rw e at c.push.ensures.behind
