use borrow.Author.Tests.{ne_eqb}
use Rattle.answers.proofs.Results.{numbered}
use Rattle.route_rules.proofs.Laws.{handed_on}
use Rattle.route_rules.specs.Parts.{limited_of}
use Rattle.route_rules.specs.SessionRules.{rule12}
use Rattle.octets.proofs.Said.{and_false}
use Rattle.route_rules.proofs.rule.limited.Goals as goal

pub returns-in_err-counts : goal.returns-in_err-counts
unfolding limited_of
returns-in_err-counts c =
    let e = c.in_err-counts.field-0.0 in
    record { limited = rw (c.in_err-counts.was, ne_eqb _ _ (numbered e.reason)) (handed_on _ c.from_residual.result e c.from_residual.ensures.1) }

pub returns-then-past : goal.returns-then-past
unfolding limited_of rule12
returns-then-past c = record { limited = rw (c.in_ok-counts.was, c.in-Some.is, ← c.past.ensures.past, c.if-past.true, c.nth.ensures.place) }

pub returns-in-None : goal.returns-in-None
unfolding limited_of rule12
returns-in-None c = record { limited = rw (c.in_ok-counts.was, c.in-None.is, and_false c.args.ero) }

pub returns-else-past : goal.returns-else-past
unfolding limited_of rule12
returns-else-past c = record { limited = rw (c.in_ok-counts.was, c.in-Some.is, ← c.past.ensures.past, c.if-past.false) }
