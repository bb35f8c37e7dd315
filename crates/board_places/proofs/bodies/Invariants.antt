use mathlib.Core.Path.{◌≡◌}
use lib.ListN.{get_or}
use Rattle.board_record.specs.Proper.{all_below}
use Rattle.board_fits.specs.Fits.{body_b}
use Rattle.board_places.proofs.bodies.Given as goal

abbrev pub invariant-loop-i : goal.invariant-loop-i
invariant-loop-i l = l.all ≡ all_below (λ j. body_b (get_or l.b.lengths.now j 0) (get_or l.b.forms.now j 0)) l.i
