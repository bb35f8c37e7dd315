use mathlib.Core.Bool.{false≢true}
use native.Mathlib.Omega.{arith}
use Rattle.subobject_sound.proofs.Laws.{label_room, label_kept, time_kept, label_none}
use Rattle.subobject_sound.proofs.sound.label_sound.Goals as goal

pub label_in-requires : goal.label_in-requires
label_in-requires c = omega (arith, label_room _ _ _ c.labelled.ensures.labelled c.if-labelled.true c.requires.1.0, c.requires.1.1, c.requires.0, c.from.ensures)

pub returns-then-twenty_nine : goal.returns-then-twenty_nine
returns-then-twenty_nine c = record { sound = λ e. absurd (false≢true e) }

pub bounds-s-p : goal.bounds-s-p
bounds-s-p c =
    let room = label_room _ _ _ c.labelled.ensures.labelled c.if-labelled.true c.requires.1.0 in
    omega (arith, room, c.requires.1.1, c.requires.0, c.from.ensures)

pub returns-then-labelled : goal.returns-then-labelled
returns-then-labelled c =
    let form = c.args.form in record {
      sound = λ e. (
        label_kept form _ _ _ _ _ _ c.from.ensures
            c.label_in.ensures.label c.twenty_nine.ensures.broken c.if-twenty_nine.false,
        time_kept form _ _ _ _ _ _ c.from.ensures c.from-then-labelled.ensures c.thirty.ensures.broken e,
      );
    }

pub returns : goal.returns
returns c = record { sound = λ e. label_none _ _ _ _ c.labelled.ensures.labelled c.if-labelled.false }
