use mathlib.Core.Path.{◌≡◌}
use Prim.Native.Nat.{◌<◌}
use lib.ListN.{get_or}
use Rattle.std.proofs.Common.{IfSome}
use Rattle.std.specs.Option.{unwrap_or}
use Rattle.board_record.specs.Sizes.{places}
use Rattle.board_record.specs.Search.{least_where}
use Rattle.board_search.specs.Oldest.{bare}
use Rattle.board_search.proofs.report.oldest.Given as goal

abbrev pub invariant-loop-i : goal.invariant-loop-i
invariant-loop-i l =
    (unwrap_or l.best places ≡ least_where (λ j. bare (get_or l.b.versions.now j 0) (get_or l.b.lengths.now j 0)) (λ j. get_or l.b.versions.now j 0) l.i)
    × IfSome l.best (λ p. p < places)
