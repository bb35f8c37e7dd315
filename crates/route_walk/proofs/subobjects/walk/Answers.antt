use native.Mathlib.Omega.{arith}
use mathlib.Core.Path.{◌∙◌}
use Rattle.subobject.specs.Layout.{expected_length}
use Rattle.route_walk.proofs.Laws.{walk_starts, stray_ends, left_ends, left_room, begin, stops, passes, checked_length, counted, head_size, asked, reason_of, refused_at}
use Rattle.route_walk.proofs.subobjects.walk.Goals as goal

pub walk-init : goal.walk-init
walk-init c = (omega arith, walk_starts _ _ _ _ _ c.requires.1.2, omega arith)

pub head_at-h-requires : goal.head_at-h-requires
head_at-h-requires c = let h = left_room c.walk.invariant.1 c.if-at-end.false in omega arith

pub loop-reason-init : goal.loop-reason-init
loop-reason-init c = (
  omega arith,
  begin c.walk.invariant.1 (omega (arith, c.walk.invariant.0, c.if-at-end.false)) (head_size _ _ _ _ _ c.head_at-h.ensures.read),
)

pub loop-reason-preserved : goal.loop-reason-preserved
loop-reason-preserved c =
    let number = c.number-number.ensures.number ∙ reason_of _ _ c.loop-reason-test.true in (
      omega arith,
      passes c.loop-reason.invariant.1 c.loop-reason-test.true
          (asked _ _ _ _ _ _ c.loop-reason.reason-index _ _ c.head_at-h.ensures.read number c.breaks.ensures.broken ∙ c.if-breaks.false),
    )

pub returns-then-breaks : goal.returns-then-breaks
returns-then-breaks c =
    let n = reason_of _ _ c.loop-reason-test.true in
    let number = c.number-number.ensures.number ∙ n in
    record {
      walked = refused_at _ _ _ _ _ n c.number-number.ensures.number c.place.ensures.place
          ∙ stops c.loop-reason.invariant.1 c.loop-reason-test.true
          (asked _ _ _ _ _ _ c.loop-reason.reason-index _ _ c.head_at-h.ensures.read number c.breaks.ensures.broken ∙ c.if-breaks.true);
    }

pub stray_of-stray-requires : goal.stray_of-stray-requires
unfolding expected_length
stray_of-stray-requires c =
    let e = c.head_at-h.ensures.read in
    let h = left_room c.walk.invariant.1 c.if-at-end.false in
    let size = checked_length _ _ _ _ _ c.loop-reason.invariant.1 _ e (omega (arith, c.loop-reason.invariant.0, c.loop-reason-test.false)) in
    (omega (arith, c.walk.invariant.0, head_size _ _ _ _ _ e, size), c.requires.0, (size, omega (arith, c.walk.invariant.0, head_size _ _ _ _ _ e)))

pub walk-smaller : goal.walk-smaller
walk-smaller c =
    let h = left_room c.walk.invariant.1 c.if-at-end.false in
    let e = head_size _ _ _ _ _ c.head_at-h.ensures.read in omega (arith, c.walk.invariant.0)

pub walk-preserved : goal.walk-preserved
walk-preserved c =
    let r = c.head_at-h.ensures.read in
    let h = left_room c.walk.invariant.1 c.if-at-end.false in
    let e = head_size _ _ _ _ _ r in (
      omega (arith, c.walk.invariant.0),
      counted _ _ _ _ _ c.loop-reason.invariant.1 _ _ r c.stray_of-stray.ensures.one.0 (omega (arith, c.loop-reason.invariant.0, c.loop-reason-test.false)),
      omega (arith, c.stray_of-stray.ensures.one.1, c.walk.invariant.2),
    )

pub returns-then-at-end : goal.returns-then-at-end
returns-then-at-end c = record { walked = stray_ends (left_ends c.walk.invariant.1 c.if-at-end.true) }
