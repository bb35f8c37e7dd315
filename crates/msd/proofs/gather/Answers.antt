use Rattle.msd.proofs.Laws.{passing_start, passing_next, passing_wrong, gathered_wrong, passed, passed_stands, passed_right}
use Rattle.msd.specs.Msd.{pairs_in, wrong_pairs, known_msd}
use Rattle.msd.specs.Stands.{met}
use lib.ListN.{get_or}
use native.Mathlib.Omega.{arith}
use borrow.Author.Tests.{ne_eqb}
use mathlib.Core.Path.{◌≡◌, sym}
use mathlib.Core.Bool.{true}
use Rattle.msd.proofs.gather.Goals as goal
use Rattle.msd.proofs.gather.Goals.{In_default-kind}

pub loop-pairs-init : goal.loop-pairs-init
unfolding met
loop-pairs-init c = passing_start _

-- where the type is none of the four
wrong : (c : In_default-kind) → wrong_pairs (pairs_in c.args.p.now) ≡ true
unfolding known_msd
wrong c =
    let q = c.loop-pairs.pairs.now in
    passing_wrong q c.loop-pairs.invariant c.in-len2-up.len_at_least
    (rw (
      ne_eqb (get_or q 0 0) 44 (λ e. omega (arith, e)),
      ne_eqb (get_or q 0 0) 41 (λ e. omega (arith, e)),
      ne_eqb (get_or q 0 0) 42 (λ e. omega (arith, e)),
      ne_eqb (get_or q 0 0) 45 (λ e. omega (arith, e)),
    ))

pub returns-in_default-kind : goal.returns-in_default-kind
returns-in_default-kind c = record { gathered = gathered_wrong _ (wrong c); wrong = sym (wrong c); stands = tt }

pub loop-pairs-preserved-in-44 : goal.loop-pairs-preserved-in-44
unfolding known_msd
loop-pairs-preserved-in-44 c = let e = c.in-44.is in
    passing_next c.loop-pairs.pairs.now c.loop-pairs.invariant c.in-len2-up.len_at_least (rw e) (rw (e, c.smaller-encaps.ensures.smaller)) (rw e)

pub loop-pairs-preserved-in-41 : goal.loop-pairs-preserved-in-41
unfolding known_msd
loop-pairs-preserved-in-41 c = let e = c.in-41.is in
    passing_next c.loop-pairs.pairs.now c.loop-pairs.invariant c.in-len2-up.len_at_least (rw e) (rw e) (rw (e, c.smaller-left.ensures.smaller))

-- a type that binds nothing
pub loop-pairs-preserved-in-42 : goal.loop-pairs-preserved-in-42
unfolding known_msd
loop-pairs-preserved-in-42 c = let e = c.in-42.is in
    passing_next c.loop-pairs.pairs.now c.loop-pairs.invariant c.in-len2-up.len_at_least (rw e) (rw e) (rw e)

pub loop-pairs-preserved : goal.loop-pairs-preserved
unfolding known_msd
loop-pairs-preserved c = let e = c.in-45.is in
    passing_next c.loop-pairs.pairs.now c.loop-pairs.invariant c.in-len2-up.len_at_least (rw e) (rw e) (rw e)

pub returns : goal.returns
returns c =
    let q = c.loop-pairs.pairs.now in
    let i = c.loop-pairs.invariant in
    let h = c.in_default.len_below in
    let e = c.met.ensures.met in
    let f = c.met-2.ensures.met in
    record { gathered = rw (e, f) (passed q i h); wrong = sym (passed_right q i h); stands = rw (e, f) (passed_stands q i h) }
