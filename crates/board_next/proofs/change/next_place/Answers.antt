use mathlib.Core.Path.{refl}
use Rattle.board_record.specs.Lent.{table_lent}
use Rattle.board_next.proofs.Along.{on_chain, along_start, along_more, found_newer, found_path, none_here, none_left}
use Rattle.board_next.proofs.change.next_place.Goals as goal

pub first_above-i-requires : goal.first_above-i-requires
first_above-i-requires c = let b = c.args.b in (on_chain (table_lent b) b.order.now c.requires.0 c.requires.1 c.args.s c.args.w).rises

pub loop-i-init : goal.loop-i-init
loop-i-init c = let b = c.args.b in along_start (table_lent b) b.order.now c.requires.0 c.requires.1 c.args.s c.args.w _ c.first_above-i.ensures.first

pub returns-in_default-clause-next : goal.returns-in_default-clause-next
returns-in_default-clause-next c =
    let b = c.args.b in
    none_here (table_lent b) b.order.now c.requires.0 c.requires.1 c.args.s c.args.w _ _ c.loop-i.invariant c.loop-i-test.true refl c.in_default.ensures.none

pub returns-then-s-b-clause-next : goal.returns-then-s-b-clause-next
returns-then-s-b-clause-next c =
    let b = c.args.b in
    found_newer (table_lent b) b.order.now c.requires.0 c.requires.1 c.args.s c.args.w _ _ c.loop-i.invariant c.loop-i-test.true c.in-Some.ensures.place.0
    c.in-Some.ensures.place.1 c.if-s-b.true

pub returns-then-b-p-ne0-clause-next : goal.returns-then-b-p-ne0-clause-next
returns-then-b-p-ne0-clause-next c =
    let b = c.args.b in
    found_path (table_lent b) b.order.now c.requires.0 c.requires.1 c.args.s c.args.w _ _ c.loop-i.invariant c.loop-i-test.true c.in-Some.ensures.place.0
    c.in-Some.ensures.place.1 c.if-b-p-ne0.true

pub loop-i-preserved : goal.loop-i-preserved
loop-i-preserved c =
    let b = c.args.b in
    along_more (table_lent b) b.order.now c.requires.0 c.requires.1 c.args.s c.args.w _ _ c.loop-i.invariant c.loop-i-test.true c.in-Some.ensures.place.0
    c.if-s-b.false c.if-b-p-ne0.false

pub returns-clause-next : goal.returns-clause-next
returns-clause-next c = let b = c.args.b in none_left (table_lent b) b.order.now c.requires.0 c.requires.1 c.args.s c.args.w _ c.loop-i.invariant c.loop-i-test.false
