use mathlib.Core.Path.{◌≡◌}
use Rattle.board_record.specs.Lists.{max_below}
use Rattle.board_record.specs.Tops.{in_group}
use Rattle.board_tops.proofs.working.top_of.Given as goal

abbrev pub invariant-loop-j : goal.invariant-loop-j
invariant-loop-j l = l.top ≡ max_below (in_group l.versions l.g) l.j
