use Rattle.printing.proofs.Laws.{dash_for_none, digits_for_some, hex_length}
use Rattle.std.proofs.Common.{◌≡◌, length, rules, arith}
use Rattle.std.proofs.lemmas.Grind.{common_steps}
use Rattle.printing.proofs.Text.octets.Goals as goal

pub returns-then-is_empty-clause-behind : goal.returns-then-is_empty-clause-behind
returns-then-is_empty-clause-behind c =
    let n : length c.args.s.now ≡ 0 = search rules in rw (dash_for_none c.args.s.now n) c.push.ensures.behind

pub returns-else-is_empty-clause-behind : goal.returns-else-is_empty-clause-behind
returns-else-is_empty-clause-behind c =
    let n : length c.args.s.now ≡ 0 → ⊥ = λ (e : length c.args.s.now ≡ 0). grind (arith, common_steps) in
    rw (digits_for_some c.args.s.now n) c.pairs.ensures.behind

pub returns-else-is_empty-clause-short : goal.returns-else-is_empty-clause-short
returns-else-is_empty-clause-short c = omega (arith, c.pairs.ensures.behind.ends, hex_length c.args.s.now)
