use mathlib.Core.Path.{sym, ◌∙◌}
use native.Mathlib.Omega.{arith}
use Rattle.writer_tests.proofs.Laws.{good_most}
use Rattle.writer_tests.proofs.test.crowded.Goals as goal

pub overflow_add-at : goal.overflow_add-at
overflow_add-at c = omega (arith, good_most c.args.at c.args.room (sym c.misplaced.ensures.misplaced ∙ c.if-misplaced.false), c.requires)
