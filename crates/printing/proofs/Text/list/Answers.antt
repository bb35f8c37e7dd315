use Rattle.printing.proofs.Laws.{list_none, list_some, then}
use Rattle.std.proofs.Common.{◌≡◌, ◌-◌, length, drop, arith}
use lib.ListN.{length-drop}
use lib.Seq.{take_all}
use Rattle.printing.proofs.Text.list.Goals as goal

pub returns-in-empty-clause-behind : goal.returns-in-empty-clause-behind
returns-in-empty-clause-behind c = rw (list_none c.args.s.now (omega arith)) c.push.ensures.behind

pub returns-in-len1-up-clause-behind : goal.returns-in-len1-up-clause-behind
returns-in-len1-up-clause-behind c =
    let s = c.args.s.now in
    let t = take_all (length s - 1) (drop 1 s) (omega (arith, length-drop 1 s)) in
    rw (list_some s _ (λ (e : length s ≡ 0). omega arith) c.from.ensures)
    (then c.number.ensures.behind (rw t at c.further.ensures.behind))
