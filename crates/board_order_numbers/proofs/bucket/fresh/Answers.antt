use Rattle.std.proofs.Common.{ℕ, ◌-◌, get_or, sym, ap, ◌∙◌, arith}
use Rattle.board_order_numbers.proofs.Laws.{along_at, walk_on, walk_hit, walk_ends}
use Rattle.board_order_numbers.proofs.bucket.fresh.Goals as goal
use Rattle.board_order_numbers.proofs.bucket.fresh.Goals.{in-Some+else-b-at, in_default}

pub returns-then-b-at : goal.returns-then-b-at
returns-then-b-at c =
    let b = c.args.b in
    record {
      fresh = walk_hit _ _ _ _ c.loop-p.invariant c.loop-p-test.true
          (along_at b.keys.now b.order.now (c.loop-p.p - 1) (omega (arith, c.requires.0, c.loop-p.invariant.low, c.loop-p-test.true))
          ∙ sym (ap (λ (y : ℕ). get_or b.keys.now y 0) c.in-Some.ensures.place.0) ∙ c.if-b-at.true);
    }

pub loop-p-preserved : goal.loop-p-preserved
loop-p-preserved c =
    let b = c.args.b in
    let e = along_at b.keys.now b.order.now (c.loop-p.p - 1) (omega (arith, c.requires.0, c.loop-p.invariant.low, c.loop-p-test.true)) in
    let l = c.requires.1 (c.loop-p.p - 1) (omega (arith, c.loop-p.invariant.low, c.loop-p-test.true)) in
    rw c.from-p-in-loop-p.ensures
    (walk_on _ _ _ _ _ c.requires.2 c.loop-p.invariant c.loop-p-test.true
    (λ q. elim c.match-place_of.branch [
      | in-Some+else-b-at w ↦ w.if-b-at.false (ap (λ (y : ℕ). get_or b.keys.now y 0) w.in-Some.ensures.place.0 ∙ sym e ∙ q)
      | in_default w ↦ absurd (omega (arith, w.in_default.ensures.none, l))
    ]))

pub returns : goal.returns
returns c = record { fresh = walk_ends _ _ _ _ c.loop-p.invariant c.loop-p-test.false }
