use native.Mathlib.Omega.{arith}
use Rattle.frame.specs.Gathered.{gathered}
use Rattle.frame.proofs.Laws.{look_starts, look_ends, look_cut, look_next, now_fits, seen_count}
use mathlib.Core.Path.{◌≡◌, ◌∙◌, ap}
use mathlib.Core.Bool.{not, ◌&&◌}
use lib.Dec.{eqb}
use lib.ListN.{length}
use borrow.Author.Tests.{eq-eqb, ne_eqb}
use Rattle.frame.proofs.gathering.look.Goals.{then-end-ne-HEADER, else-end-ne-HEADER}
use Rattle.frame.proofs.gathering.look.Goals as goal

pub loop-at-init : goal.loop-at-init
loop-at-init c =
    let any : c.if-end-ne-HEADER.any ≡ (not (eqb (length c.args.s.now) 4) && eqb c.args.first c.args.kind) = elim c.if-end-ne-HEADER.branch [
      | then-end-ne-HEADER w ↦ rw (ne_eqb _ 4 w.if-end-ne-HEADER.true) w.any-is
      | else-end-ne-HEADER w ↦ rw (eq-eqb _ 4 w.if-end-ne-HEADER.false) (w.any-is ∙ rw (eq-eqb (length c.args.s.now) 4 w.if-end-ne-HEADER.false))
    ] in
    (omega arith, omega arith, omega arith, omega arith, tt, look_starts _ _ _ _ _ any c.requires.3)

pub overflow_add-at : goal.overflow_add-at
overflow_add-at c = omega arith

pub bounds-s-at : goal.bounds-s-at
bounds-s-at c = omega (arith, c.requires.1, c.loop-at.invariant.2)

pub overflow_sub-end : goal.overflow_sub-end
overflow_sub-end c = omega arith

pub returns-then-not-fits : goal.returns-then-not-fits
returns-then-not-fits c =
    record {
      facts = look_cut c.loop-at.invariant.5 c.loop-at-test.true c.from-len.ensures c.fits.ensures.fits (ap not c.if-not-fits.true);
      placed = tt;
    }

pub bounds-s-at-in-loop-at : goal.bounds-s-at-in-loop-at
bounds-s-at-in-loop-at c = omega arith

pub seen-g-requires : goal.seen-g-requires
seen-g-requires c = (omega (arith, c.loop-at.invariant.3, c.loop-at.invariant.1, c.requires.2), omega arith, c.loop-at.invariant.4)

pub overflow_add-at-in-loop-at : goal.overflow_add-at-in-loop-at
overflow_add-at-in-loop-at c = let h = now_fits _ _ _ c.fits.ensures.fits (ap not c.if-not-fits.false) in omega arith

pub loop-at-smaller : goal.loop-at-smaller
loop-at-smaller c = let h = now_fits _ _ _ c.fits.ensures.fits (ap not c.if-not-fits.false) in omega arith

pub loop-at-preserved : goal.loop-at-preserved
loop-at-preserved c =
    let loop = c.loop-at in
    let h = now_fits _ _ _ c.fits.ensures.fits (ap not c.if-not-fits.false) in
    let q = seen_count (gathered loop.g) (gathered c.seen-g.result) _ _ _ _ c.seen-g.ensures.seen in (
      omega (arith, loop.invariant.0),
      omega (arith, loop.invariant.1),
      omega (arith, loop.invariant.2),
      omega (arith, loop.invariant.3),
      c.seen-g.ensures.placed,
      look_next loop.invariant.5 (omega (arith, loop.invariant.0))
          (omega (arith, loop.invariant.1, c.loop-at-test.true))
          c.from-len.ensures c.fits.ensures.fits (ap not c.if-not-fits.false)
          c.from.ensures c.kind.ensures.kind c.seen-g.ensures.seen,
    )

pub returns : goal.returns
returns c = record { facts = look_ends c.loop-at.invariant.5 (omega arith); placed = c.loop-at.invariant.4 }
