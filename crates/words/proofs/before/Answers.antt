use Rattle.words.proofs.Laws.{before_some, before_none}
use Rattle.std.specs.List.{position}
use Rattle.std.specs.Prelude.{Some, None}
use Rattle.std.proofs.Common.{◌≡◌, arith}
use lib.Dec.{eqb}
use lib.ListN.{length-take}
use Rattle.words.proofs.before.Goals as goal

pub returns-in-Some : goal.returns-in-Some
returns-in-Some c =
    let n : position (λ x. eqb x c.args.mark) c.args.line.now ≡ Some c.in-Some.end = cc in
    record { before = (before_some _ _ _ n, simp length-take (omega arith)) }

pub returns-in-None : goal.returns-in-None
returns-in-None c =
    let n : position (λ x. eqb x c.args.mark) c.args.line.now ≡ None = cc in
    record { before = (before_none _ _ n, omega arith) }
