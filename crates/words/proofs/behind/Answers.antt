use Rattle.words.proofs.Laws.{behind_some, behind_none, take_rest}
use Rattle.std.specs.List.{position}
use Rattle.std.specs.Prelude.{Some, None}
use Rattle.std.proofs.Common.{◌≡◌, ◌+◌, arith}
use lib.Dec.{eqb}
use lib.ListN.{length-take, length-drop}
use Rattle.words.proofs.behind.Goals as goal

pub returns-in-Some : goal.returns-in-Some
returns-in-Some c =
    let n : position (λ x. eqb x c.args.mark) c.args.line.now ≡ Some c.in-Some.end = cc in
    record { behind = (rw (take_rest c.args.line.now (c.in-Some.end + 1)) (behind_some _ _ _ n), simp (length-take, length-drop) (omega arith)) }

pub returns-in-None : goal.returns-in-None
returns-in-None c =
    let n : position (λ x. eqb x c.args.mark) c.args.line.now ≡ None = cc in
    record { behind = (behind_none _ _ n, omega arith) }
