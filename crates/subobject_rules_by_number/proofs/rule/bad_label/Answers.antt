use mathlib.Core.Path.{sym, ◌∙◌}
use native.Mathlib.Omega.{arith}
use Rattle.subobject.specs.Rules.{rule29}
use Rattle.forms.proofs.Laws.{fixed_most}
use Rattle.subobject_rules_by_number.proofs.rule.bad_label.Goals as goal

pub label_at-requires : goal.label_at-requires
label_at-requires c = omega (arith, fixed_most c.requires.1, c.from.ensures)

pub returns-then-labelled : goal.returns-then-labelled
returns-then-labelled c = record { broken = rw (← c.from.ensures, ← c.label_at.ensures.label) c.twenty_nine.ensures.broken }

pub returns : goal.returns
unfolding rule29
returns c = record { broken = rw (sym c.labelled.ensures.labelled ∙ c.if-labelled.false) }
