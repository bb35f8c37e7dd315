use mathlib.Core.Path.{sym, ◌∙◌}
use borrow.Author.Tests.{eq-eqb, ne_eqb}
use Rattle.writer_rules.specs.Refusals.{finish_number}
use Rattle.writer_rules.proofs.refusal.finishing.Goals as goal

pub returns-then-misplaced : goal.returns-then-misplaced
unfolding finish_number
returns-then-misplaced c = record { number = simp (sym c.misplaced.ensures.misplaced ∙ c.if-misplaced.true) }

pub returns-then-at-eq-HEADER : goal.returns-then-at-eq-HEADER
unfolding finish_number
returns-then-at-eq-HEADER c = record { number = simp (sym c.misplaced.ensures.misplaced ∙ c.if-misplaced.false, eq-eqb _ _ c.if-at-eq-HEADER.true) }

pub returns : goal.returns
unfolding finish_number
returns c = record { number = simp (sym c.misplaced.ensures.misplaced ∙ c.if-misplaced.false, ne_eqb _ _ c.if-at-eq-HEADER.false) }
