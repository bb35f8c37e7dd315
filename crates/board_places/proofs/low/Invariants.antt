use mathlib.Core.Path.{◌≡◌}
use lib.ListN.{get_or}
use lib.Dec.{leb}
use Rattle.board_record.specs.Sizes.{key_most}
use Rattle.board_record.specs.Proper.{all_below}
use Rattle.board_places.proofs.low.Given as goal

abbrev pub invariant-loop-i : goal.invariant-loop-i
invariant-loop-i l = l.all ≡ all_below (λ j. leb (get_or l.b.keys.now j 0) key_most) l.i
