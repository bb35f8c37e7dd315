use mathlib.Core.Path.{sym, ◌∙◌}
use native.Mathlib.Omega.{arith}
use Rattle.subobject.specs.Rules.{rule29}
use Rattle.route_step_tests.proofs.Laws.{label_room}
use Rattle.route_step_tests.proofs.label.bad_label.Goals as goal

pub label-requires : goal.label-requires
label-requires c =
    let there = sym c.labelled.ensures.labelled ∙ c.if-labelled.true in
    let room = label_room c.args.form c.args.s.now c.args.at c.args.h there c.requires.0 c.requires.1 in
    omega (arith, room, c.from.ensures)

pub returns-then-labelled : goal.returns-then-labelled
returns-then-labelled c = record { broken = rw (← c.from.ensures, ← c.label.ensures.label) c.twenty_nine.ensures.broken }

pub returns : goal.returns
unfolding rule29
returns c = record { broken = rw (sym c.labelled.ensures.labelled ∙ c.if-labelled.false) }
