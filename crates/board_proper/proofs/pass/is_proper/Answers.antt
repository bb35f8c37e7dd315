use native.Mathlib.Omega.{arith}
use mathlib.Core.Path.{refl}
use lib.ListN.{get_or}
use Rattle.board_record.specs.Lent.{table_lent}
use Rattle.octets.proofs.Said.{said_yes}
use Rattle.board_order_numbers.specs.Buckets.{along}
use Rattle.board_proper.proofs.Keys.{hashed_none, hashed_more}
use Rattle.board_proper.proofs.Passing.{along_none, along_more, sound_found, key_along, is_new, is_closed, clear_at, end_full, end_short}
use Rattle.board_proper.proofs.Passing.{stop_floor, stop_version, stop_bodies, stop_low, stop_late, stop_new, stop_last, stop_closed}
use Rattle.board_proper.proofs.Rising.{bounded_none, bounded_more, is_late}
use Rattle.board_proper.proofs.Tops.{topped_none, topped_more, end_tops, no_tops}
use mathlib.Core.Path.{ap}
use mathlib.Core.Bool.{not}
use Rattle.board_proper.proofs.pass.is_proper.Goals as goal

pub returns-then-b : goal.returns-then-b
returns-then-b c =
    let b = c.args.b in let t = table_lent b in let order = b.order.now in record {
      proper = no_tops t order b.tops.now
          (stop_floor t order c.if-b.true);
    }

pub returns-then-b-gt-VERSION_MOST : goal.returns-then-b-gt-VERSION_MOST
returns-then-b-gt-VERSION_MOST c =
    let b = c.args.b in let t = table_lent b in let order = b.order.now in record {
      proper = no_tops t order b.tops.now
          (stop_version t order c.if-b-gt-VERSION_MOST.true);
    }

pub bodies-requires : goal.bodies-requires
bodies-requires c = let m = c.extent-m.ensures.reach in (m.most, m.lengths, m.forms)

pub returns-then-not-bodies : goal.returns-then-not-bodies
returns-then-not-bodies c =
    let b = c.args.b in let t = table_lent b in let order = b.order.now in record {
      proper = no_tops t order b.tops.now
          (stop_bodies t order _ c.bodies.ensures.bodies (ap not c.if-not-bodies.true));
    }

pub low-requires : goal.low-requires
low-requires c = let m = c.extent-m.ensures.reach in (m.most, m.keys)

pub returns-then-not-low : goal.returns-then-not-low
returns-then-not-low c =
    let b = c.args.b in let t = table_lent b in let order = b.order.now in record {
      proper = no_tops t order b.tops.now
          (stop_low t order _ c.low.ensures.low (ap not c.if-not-low.true));
    }

pub loop-i-init : goal.loop-i-init
loop-i-init c = (omega arith, along_none _ _, hashed_none _, topped_none _ _, bounded_none _)

pub returns-then-b-last : goal.returns-then-b-last
returns-then-b-last c =
    let b = c.args.b in let t = table_lent b in let order = b.order.now in
    let inv = c.loop-i.invariant in record {
      proper = no_tops t order b.tops.now
          (stop_last t order _ _ inv.0 inv.1 c.if-b-last.true);
    }

pub closed-requires : goal.closed-requires
closed-requires c = (c.loop-i.invariant.0, c.extent-m.ensures.reach)

pub returns-then-not-closed : goal.returns-then-not-closed
returns-then-not-closed c =
    let b = c.args.b in let t = table_lent b in let order = b.order.now in
    let inv = c.loop-i.invariant in record {
      proper = no_tops t order b.tops.now
          (stop_closed t order _ _ inv.0 inv.1 c.in_default.ensures.none c.loop-i-test.true _
          c.closed.ensures.closed (ap not c.if-not-closed.true));
    }

pub returns-in_default : goal.returns-in_default
returns-in_default c =
    let b = c.args.b in let t = table_lent b in let order = b.order.now in
    let inv = c.loop-i.invariant in let all = is_closed t order _ _ inv.0 inv.1 _ c.closed.ensures.closed (ap not c.if-not-closed.false) in
    let rest = clear_at t order _ _ inv.0 inv.1 _ refl all.2 in record {
      proper = end_tops t order _ b.tops.now _ _ inv.0 inv.3 inv.1.risen rest _
          (end_short t order _ _ inv.0 inv.1 _ _ refl all.0 refl all.1 rest inv.2.fine
          c.if-b.false c.if-b-gt-VERSION_MOST.false
          c.if-b-last.false) c.same.ensures.same;
    }

pub late-requires : goal.late-requires
late-requires c = (c.in-Some.ensures.place.1, c.loop-i.invariant.4.last_in)

pub returns-then-not-late : goal.returns-then-not-late
returns-then-not-late c =
    let b = c.args.b in let t = table_lent b in let order = b.order.now in
    let inv = c.loop-i.invariant in let is = c.in-Some.ensures.place.0 in record {
      proper = no_tops t order b.tops.now
          (stop_late t order _ _ _ _ _ _ c.loop-i-test.true inv.1 inv.4 is c.in-Some.ensures.place.1 refl c.late.ensures.late (ap not c.if-not-late.true));
    }

pub bucketed-requires : goal.bucketed-requires
bucketed-requires c =
    let b = c.args.b in
    let t = table_lent b in
    let order = b.order.now in
    let inv = c.loop-i.invariant in
    let is = c.in-Some.ensures.place.0 in
    (c.loop-i-test.true, key_along t order _ _ c.loop-i-test.true is, inv.1.risen.low, inv.2.heads, inv.2.links)

pub returns-then-not-bucketed : goal.returns-then-not-bucketed
returns-then-not-bucketed c =
    let b = c.args.b in let t = table_lent b in let order = b.order.now in
    let inv = c.loop-i.invariant in let is = c.in-Some.ensures.place.0 in record {
      proper = no_tops t order b.tops.now
          (stop_new t order _ _ _ _ c.loop-i-test.true inv.1 is c.in-Some.ensures.place.1 c.bucketed.ensures.new (ap not c.if-not-bucketed.true));
    }

pub loop-i-preserved : goal.loop-i-preserved
loop-i-preserved c =
    let b = c.args.b in
    let t = table_lent b in
    let order = b.order.now in
    let inv = c.loop-i.invariant in
    let is = c.in-Some.ensures.place.0 in
    let xs = along b.keys.now order in
    let yes = said_yes _ _ c.late.ensures.late (ap not c.if-not-late.false) in
    let above = is_late b.floor c.loop-i.last c.loop-i.bound (get_or b.versions.now c.in-Some.x 0)
    (get_or b.lengths.now c.in-Some.x 0) inv.4 yes in
    let new = c.if-not-bucketed.false in
    let used = is_new t order _ _ _ c.bucketed.ensures.new new in (
      omega (arith, c.loop-i-test.true),
      along_more t order _ _ _ _ inv.1 is c.in-Some.ensures.place.1 refl above.0 used
          (sound_found t _ _ c.bodies.ensures.bodies (ap not c.if-not-bodies.false) c.low.ensures.low
          (ap not c.if-not-low.false) _ _ c.in-Some.ensures.place.1 used above.0 above.1),
      hashed_more xs _ _ _ _ _ inv.2.fine (key_along t order _ _ c.loop-i-test.true is) c.bucketed.ensures.new new c.bucketed.ensures.joins,
      topped_more t.versions order _ _ _ _ _ inv.3 inv.1.risen is c.in-Some.ensures.place.1 refl above.0,
      bounded_more _ _ _ _ _ inv.4 above.0 c.max-bound.ensures,
    )

pub returns-then-b-last-2 : goal.returns-then-b-last-2
returns-then-b-last-2 c =
    let b = c.args.b in let t = table_lent b in let order = b.order.now in
    let inv = c.loop-i.invariant in record {
      proper = no_tops t order b.tops.now
          (stop_last t order _ _ inv.0 inv.1 c.if-b-last-2.true);
    }

pub returns : goal.returns
returns c =
    let b = c.args.b in let t = table_lent b in let order = b.order.now in
    let inv = c.loop-i.invariant in record {
      proper = end_tops t order _ b.tops.now _ _ inv.0 inv.3 inv.1.risen
          (λ j h k. absurd (omega (arith, c.loop-i-test.false))) _
          (end_full t order _ _ inv.0 inv.1 c.loop-i-test.false inv.2.fine c.if-b.false c.if-b-gt-VERSION_MOST.false
          c.if-b-last-2.false) c.same-2.ensures.same;
    }
