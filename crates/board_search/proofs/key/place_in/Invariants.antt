use Rattle.board_search.proofs.Keys.{passed}
use Rattle.board_search.proofs.key.place_in.Given as goal

abbrev pub invariant-loop-i : goal.invariant-loop-i
invariant-loop-i l = passed l.keys l.key l.i
