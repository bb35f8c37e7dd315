use Prim.Native.Nat.{◌-◌, ◌+◌, ◌*◌}
use native.Mathlib.Omega.{arith}
use mathlib.Core.Path.{◌≡◌, ◌∙◌, subst}
use lib.ListN.{length}
use Rattle.forms.specs.declared.Form.{Form}
use Rattle.subobject.specs.Layout.{expected_length}
use Rattle.subobject.proofs.Laws.{sound_length}
use Rattle.frame.proofs.Laws.{headed_sized, fits_made}
use Rattle.route_pass.specs.Settled.{SettledBy, stray_worth}
use Rattle.route_pass.proofs.Laws.{rules_of, labels_of, strays_of, s_bit, head_of_lem}
use Rattle.route_pass.proofs.Pass.{gone_on, good_made, settled_by, unsettled}
use Rattle.route_pass.proofs.Labels.{gone_begun}
use Rattle.route_pass.proofs.seeing.see.Goals as goal

pub labels-count-requires : goal.labels-count-requires
labels-count-requires g c =
    let h = headed_sized _ _ c.requires.0 in
    (omega (arith, h.low), c.requires.1)

pub overflow_mul-at : goal.overflow_mul-at
overflow_mul-at g c = omega (arith, c.labels-count.ensures.labels.room, c.requires.1)

pub overflow_add-at : goal.overflow_add-at
overflow_add-at g c = omega (arith, c.labels-count.ensures.labels.room, c.requires.1)

pub loop-at-init : goal.loop-at-init
loop-at-init g c =
    let room = c.labels-count.ensures.labels.room in (
      omega arith,
      room,
      omega arith,
      omega arith,
      omega arith,
      rw c.form-form.ensures.form (gone_begun _ _ _ _ _ c.labels-count.ensures.labels),
    )

pub head_at-h-requires : goal.head_at-h-requires
head_at-h-requires g c =
    let h = headed_sized _ _ c.requires.0 in
    let inv = c.loop-at.invariant in
    omega (arith, h.four, inv.1, inv.2, c.loop-at-test.true)

pub returns-then-h-kind : goal.returns-then-h-kind
returns-then-h-kind g c = record { settled = unsettled }

pub is_sound-requires : goal.is_sound-requires
is_sound-requires g c =
    let read = c.head_at-h in
    let sized = headed_sized _ _ c.requires.0 in
    let inv = c.loop-at.invariant in (
      omega (arith, sized.four, inv.1, inv.2, c.loop-at-test.true),
      read.ensures.read ∙ head_of_lem c.form-form.ensures.form _ _ _,
      read.ensures.small.0,
    )

pub returns-then-not-is_sound : goal.returns-then-not-is_sound
returns-then-not-is_sound g c = record { settled = unsettled }

pub overflow_sub-end : goal.overflow_sub-end
overflow_sub-end g c = omega (arith, c.loop-at.invariant.1)

pub returns-then-end-at : goal.returns-then-end-at
returns-then-end-at g c = record { settled = unsettled }

pub structure_sound-requires : goal.structure_sound-requires
structure_sound-requires g c =
    let known = c.form-form.ensures.form in
    let rules = rules_of known _ _ _ (c.is_sound.ensures.sound (c.if-not-is_sound.false)) in
    (sound_length _ _ rules.2, omega (arith, c.if-end-at.false, c.loop-at.invariant.1))

pub returns-then-not-structure_sound : goal.returns-then-not-structure_sound
returns-then-not-structure_sound g c = record { settled = unsettled }

pub label_sound-requires : goal.label_sound-requires
label_sound-requires g c =
    let rules = c.is_sound.ensures.sound (c.if-not-is_sound.false) in (
      rules.2,
      s_bit _ _ _ _ _ c.head_at-h.ensures.read,
      (sound_length _ _ rules.2, omega (arith, c.if-end-at.false, c.loop-at.invariant.1)),
    )

pub returns-then-not-label_sound : goal.returns-then-not-label_sound
returns-then-not-label_sound g c = record { settled = unsettled }

pub stray_of-stray-requires : goal.stray_of-stray-requires
unfolding expected_length
stray_of-stray-requires g c =
    let rules = c.is_sound.ensures.sound (c.if-not-is_sound.false) in
    let size = sound_length _ _ rules.2 in (
      omega (arith, size, c.if-end-at.false, c.loop-at.invariant.1),
      (size, omega (arith, c.if-end-at.false, c.loop-at.invariant.1)),
    )

pub overflow_add-stray : goal.overflow_add-stray
overflow_add-stray g c = omega (arith, c.stray_of-stray.ensures.one.1, c.loop-at.invariant.4, c.loop-at.invariant.3, c.loop-at.invariant.1)

pub overflow_add-count : goal.overflow_add-count
overflow_add-count g c = omega (arith, c.loop-at.invariant.3, c.loop-at.invariant.1)

pub overflow_add-at-in-loop-at : goal.overflow_add-at-in-loop-at
overflow_add-at-in-loop-at g c = omega (arith, c.if-end-at.false, c.loop-at.invariant.1)

-- What a turn leaves behind: the subobject is a multiple of 4 octets, and fits.
pub loop-at-smaller : goal.loop-at-smaller
loop-at-smaller g c =
    let fours = c.is_sound.ensures.fours (c.if-not-is_sound.false) in
    omega (arith, fours.1, c.if-end-at.false, c.loop-at.invariant.1)

pub loop-at-preserved : goal.loop-at-preserved
loop-at-preserved g c =
    let inv = c.loop-at.invariant in
    let known = c.form-form.ensures.form in
    let rules = rules_of known _ _ _ (c.is_sound.ensures.sound (c.if-not-is_sound.false)) in
    let fours = c.is_sound.ensures.fours (c.if-not-is_sound.false) in
    let read = c.head_at-h in
    let h = read.result in
    let labels = labels_of known _ _ _ (c.label_sound.ensures.sound (c.if-not-label_sound.false)) in
    let kind : h.kind ≡ c.form-form.result.kind = omega (arith, c.if-h-kind.false) in
    let good = good_made _ _ _ _ _ _ read.ensures.read kind rules.0 rules.1 rules.2 rules.3
    (c.structure_sound.ensures.sound (c.if-not-structure_sound.false)) labels.0 labels.1 in
    let room-left = length c.args.s.now - c.loop-at.at in
    let fits = fits_made h.size room-left fours.1 fours.0 (omega (arith, c.if-end-at.false, inv.1)) in (
      omega (arith, inv.0),
      omega (arith, c.if-end-at.false, inv.1),
      omega (arith, inv.2, fours.0),
      omega (arith, inv.3, fours.1),
      omega (arith, inv.4, c.stray_of-stray.ensures.one.1),
      gone_on inv.5 _ _ (omega (arith, inv.1, c.loop-at-test.true)) read.ensures.read fits good (strays_of known _ _ _ c.stray_of-stray.ensures.one.0),
    )

pub overflow_mul-result : goal.overflow_mul-result
overflow_mul-result g c =
    let inv = c.loop-at.invariant in
    omega (arith, inv.4, inv.3, inv.1, c.requires.1)

pub overflow_add-result : goal.overflow_add-result
overflow_add-result g c =
    let inv = c.loop-at.invariant in
    omega (arith, inv.4, inv.3, inv.1, c.requires.1)

pub returns : goal.returns
returns g c =
    let inv = c.loop-at.invariant in
    let x = c.loop-at.count + stray_worth * c.loop-at.stray in
    record {
      settled = subst (λ (form : Form). SettledBy form c.args.s.now c.args.ero c.args.n x) c.form-form.ensures.form
          (settled_by _ _ _ _ inv.5 c.loop-at-test.false c.requires.0 (omega (arith, inv.3, inv.1, c.requires.1)) inv.4);
    }
