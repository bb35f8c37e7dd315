use Rattle.words.proofs.Laws.{words_count}
use Rattle.std.specs.List.{count_by}
use Rattle.std.proofs.Common.{◌≡◌, rules, arith}
use lib.Dec.{eqb}
use Rattle.words.proofs.count.Goals as goal

pub returns : goal.returns
returns c =
    let n : c.count.result ≡ count_by (λ x. eqb x c.args.mark) c.args.line.now = search rules in
    record { count = omega (arith, words_count c.args.mark c.args.line.now) }
