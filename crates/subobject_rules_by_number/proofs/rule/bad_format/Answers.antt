use mathlib.Core.Path.{sym, ◌∙◌}
use native.Mathlib.Omega.{arith}
use Rattle.subobject.specs.Rules.{rule30}
use Rattle.forms.proofs.Laws.{fixed_most}
use Rattle.subobject_rules_by_number.proofs.rule.bad_format.Goals as goal

pub time_at-requires : goal.time_at-requires
time_at-requires c = omega (arith, fixed_most c.requires.1, c.from.ensures)

pub returns-then-labelled : goal.returns-then-labelled
returns-then-labelled c = record { broken = rw (← c.from.ensures, ← c.time_at.ensures.time) c.thirty.ensures.broken }

pub returns : goal.returns
unfolding rule30
returns c = record { broken = rw (sym c.labelled.ensures.labelled ∙ c.if-labelled.false) }
