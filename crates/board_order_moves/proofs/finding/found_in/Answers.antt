use native.Mathlib.Omega.{arith}
use mathlib.Core.Path.{◌∙◌}
use Rattle.board_record.specs.Search.{place_in}
use Rattle.board_order_moves.proofs.Finds.{looked_all}
use Rattle.board_order_moves.proofs.finding.found_in.Goals as goal

pub returns-then-first-lt-NOWHERE-clause-found : goal.returns-then-first-lt-NOWHERE-clause-found
unfolding place_in
returns-then-first-lt-NOWHERE-clause-found c = c.from.ensures ∙ looked_all _ _ _ c.loop-i-test.false c.loop-i.invariant

pub returns-else-first-lt-NOWHERE-clause-found : goal.returns-else-first-lt-NOWHERE-clause-found
unfolding place_in
returns-else-first-lt-NOWHERE-clause-found c =
    omega (arith, looked_all _ _ _ c.loop-i-test.false c.loop-i.invariant, c.loop-i.invariant.most, c.if-first-lt-NOWHERE.false)
