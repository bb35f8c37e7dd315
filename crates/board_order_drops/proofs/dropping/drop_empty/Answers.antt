use Prim.Native.Nat.{ℕ, ◌-◌, ◌≤◌}
use native.Mathlib.Omega.{arith}
use mathlib.Core.Path.{◌≡◌, refl, sym, ap, ◌∙◌}
use lib.ListN.{get_or, length}
use Rattle.std.proofs.Common.{rules}
use Rattle.std.proofs.lemmas.List.{length-replicate}
use Rattle.board_record.specs.Order.{named}
use Rattle.board_order.proofs.Chains.{in_order_is}
use Rattle.board_order_drops.proofs.Drops.{sifting_skip, sifting_keep, filled_order, filled_long, filled_front, filled_behind}
use Rattle.board_order_drops.proofs.dropping.drop_empty.Goals as goal
use Rattle.board_order_drops.proofs.dropping.drop_empty.Goals.{in-Some+then-keys-p-ne0, in-Some+else-keys-p-ne0, in_default}

pub returns-then-not-dropped : goal.returns-then-not-dropped
returns-then-not-dropped c = record { order = in_order_is _ _ c.told-order (c.requires.1 (c.if-not-dropped.true)) }

pub loop-i-preserved : goal.loop-i-preserved
loop-i-preserved c =
    let s = c.loop-i.invariant in
    let l = c.loop-i-test.true in
    let e : get_or c.loop-i.order c.loop-i.i 0 ≡ get_or c.args.order.now c.loop-i.i 0 = s.behind c.loop-i.i (omega arith) in
    elim c.match-place_of.branch [
      | in-Some+then-keys-p-ne0 w ↦ rw (w.order-is, w.kept-is)
          (sifting_keep _ _ _ _ _ s l c.requires.0 _ _ refl w.in-Some.ensures.place.0 w.in-Some.ensures.place.1 w.if-keys-p-ne0.true)
      | in-Some+else-keys-p-ne0 w ↦ rw (w.order-is, w.kept-is)
          (sifting_skip _ _ _ _ _ s l
          (λ h u. u (ap (λ (y : ℕ). get_or c.args.keys.now y 0) (ap named (sym e) ∙ sym w.in-Some.ensures.place.0) ∙ w.if-keys-p-ne0.false)))
      | in_default w ↦ rw (w.order-is, w.kept-is) (sifting_skip _ _ _ _ _ s l (λ h u. omega (arith, ap named (sym e), w.in_default.ensures.none)))
    ]

pub returns : goal.returns
returns c =
    let s = c.loop-i.invariant in
    let m : c.loop-i.kept ≤ length c.loop-i.order = omega (arith, s.long, s.fewer, s.most) in
    let e = c.fill.ensures.after (λ y h. h) in
    let long : length c.fill.new.self ≡ 128 - c.loop-i.kept = search rules in
    record {
      order = filled_order _ _ _ _ _ _ c.requires.0 s c.loop-i-test.false (filled_long _ _ _ (omega arith) s.long long) (λ j l. filled_front _ _ _ _ m j l)
          (λ j h l. filled_behind _ _ _ _ m e (sym (ap length e ∙ length-replicate _ 0) ∙ long) j h l);
    }
