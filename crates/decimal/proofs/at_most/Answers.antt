use Rattle.decimal.proofs.Laws.{small_number}
use Rattle.std.specs.Option.{MatchOption}
use Rattle.std.proofs.Common.{◌≡◌, false, rules}
use lib.Dec.{leb}
use Rattle.decimal.proofs.at_most.Goals as goal

pub returns : goal.returns
returns c =
    let h : MatchOption c.number.result (c.is_some_and.result ≡ false) (λ n. c.is_some_and.result ≡ leb n c.args.most) = search rules in
    record { small = small_number _ _ _ _ c.number.ensures.number h }
