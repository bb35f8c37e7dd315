use Rattle.route_step_tests.proofs.Laws.{in_the_header, no_multiple_of_4, by_the_end}
use Rattle.route_step_tests.proofs.place.is_outside.Goals as goal

pub returns-then-at-lt-HEADER : goal.returns-then-at-lt-HEADER
returns-then-at-lt-HEADER c = record { outside = in_the_header _ _ c.if-at-lt-HEADER.true }

pub returns-then-at-ne0 : goal.returns-then-at-ne0
returns-then-at-ne0 c = record { outside = no_multiple_of_4 _ _ c.if-at-lt-HEADER.false c.if-at-ne0.true }

pub returns : goal.returns
returns c = record { outside = by_the_end _ _ c.if-at-lt-HEADER.false c.if-at-ne0.false }
