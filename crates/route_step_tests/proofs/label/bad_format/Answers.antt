use mathlib.Core.Path.{sym, ◌∙◌}
use native.Mathlib.Omega.{arith}
use Rattle.subobject.specs.Rules.{rule30}
use Rattle.route_step_tests.proofs.Laws.{label_room}
use Rattle.route_step_tests.proofs.label.bad_format.Goals as goal

pub time-requires : goal.time-requires
time-requires c =
    let there = sym c.labelled.ensures.labelled ∙ c.if-labelled.true in
    let room = label_room c.args.form c.args.s.now c.args.at c.args.h there c.requires.0 c.requires.1 in
    omega (arith, room, c.from.ensures)

pub returns-then-labelled : goal.returns-then-labelled
returns-then-labelled c = record { broken = rw (← c.from.ensures, ← c.time.ensures.time) c.thirty.ensures.broken }

pub returns : goal.returns
unfolding rule30
returns c = record { broken = rw (sym c.labelled.ensures.labelled ∙ c.if-labelled.false) }
