use native.Mathlib.Omega.{arith}
use mathlib.Core.Bool.{false≢true}
use Rattle.subobject.proofs.Laws.{no_label}
use Rattle.subobject_sound.proofs.Labels.{entry_room, good_29, plain_30, timed_30}
use Rattle.subobject_sound.proofs.Laws.{label_none}
use mathlib.Core.Path.{sym, refl}
use Rattle.subobject_sound.proofs.sound.mpls_label_sound.Goals as goal

pub returns-then-h-ne1 : goal.returns-then-h-ne1
returns-then-h-ne1 c = record { sound = λ e. label_none _ _ _ _ (sym (no_label _ c.if-h-ne1.true)) refl }

pub label_good-requires : goal.label_good-requires
label_good-requires c =
    let room = entry_room _ c.requires.0 c.if-h-ne1.false c.requires.1 c.requires.2.0 in
    omega (arith, room, c.requires.2.1)

pub returns-then-not-label_good : goal.returns-then-not-label_good
returns-then-not-label_good c = record { sound = λ e. absurd (false≢true e) }

pub returns-then-h-ne1-2 : goal.returns-then-h-ne1-2
returns-then-h-ne1-2 c = record { sound = λ e. (good_29 _ _ (c.label_good.ensures.good (c.if-not-label_good.false)), plain_30 _ _ c.if-h-ne1-2.true) }

pub bounds-s-at : goal.bounds-s-at
bounds-s-at c =
    let room = entry_room _ c.requires.0 c.if-h-ne1.false c.requires.1 c.requires.2.0 in
    omega (arith, room, c.requires.2.1)

pub returns : goal.returns
returns c =
    record {
      sound = λ e. (
        good_29 _ _ (c.label_good.ensures.good (c.if-not-label_good.false)),
        timed_30 _ c.args.s.now c.args.at _ refl e,
      );
    }
