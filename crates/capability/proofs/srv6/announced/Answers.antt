-- Each return is one way out of `announced_of`. What `gather` says of the lent rest is said of the pairs by `rest_lent`.
use Rattle.capability.proofs.Laws.{sized, odd, short, a_told, r_told, announced_unsized, announced_free, announced_wrong, announced_pairs}
use Rattle.octets.proofs.Laws.{rest_lent}
use borrow.Author.Tests.{eq-eqb, ne_eqb}
use mathlib.Core.Path.{refl, sym}
use Rattle.capability.proofs.srv6.announced.Goals as goal
use Rattle.capability.proofs.srv6.announced.Goals.{then-w-ne0-via-then-w-ne0, then-w-ne0-via-else-w-ne0+then-w-lt-PAIRS_AT}

pub returns-then-w-ne0 : goal.returns-then-w-ne0
returns-then-w-ne0 c =
    let args = c.args in record {
      announced = announced_unsized args.p args.w.now
          (elim c.then-w-ne0.branch [
            | then-w-ne0-via-then-w-ne0 w ↦ odd args.p args.w.now w.if-w-ne0.true
            | then-w-ne0-via-else-w-ne0+then-w-lt-PAIRS_AT w ↦ short args.p args.w.now w.if-w-lt-PAIRS_AT.true
          ]) refl;
    }

pub returns-then-flags-eq1 : goal.returns-then-flags-eq1
returns-then-flags-eq1 c =
    let args = c.args in let all = c.read16-all.ensures.number.0 in record {
      announced = announced_free args.p args.w.now _ _ _ c.octet-flags.ensures.octet.0 (sized args.p args.w.now c.if-w-ne0.false c.if-w-lt-PAIRS_AT.false)
          (eq-eqb _ _ c.if-flags-eq1.true) (a_told args.p args.w.now _ all c.flag-a.ensures.flag) (r_told args.p args.w.now _ all c.flag-r.ensures.flag) refl;
    }

pub returns-in_default : goal.returns-in_default
returns-in_default c =
    let args = c.args in record {
      announced = announced_wrong args.p args.w.now _ c.octet-flags.ensures.octet.0 (sized args.p args.w.now c.if-w-ne0.false c.if-w-lt-PAIRS_AT.false)
          (ne_eqb _ _ c.if-flags-eq1.false) (rw rest_lent at (sym c.in_default.ensures.wrong)) refl;
    }

pub returns : goal.returns
returns c =
    let args = c.args in let all = c.read16-all.ensures.number.0 in record {
      announced = announced_pairs args.p args.w.now _ _ _ c.octet-flags.ensures.octet.0 (sized args.p args.w.now c.if-w-ne0.false c.if-w-lt-PAIRS_AT.false)
          (ne_eqb _ _ c.if-flags-eq1.false) (rw rest_lent at (sym c.in-Some.ensures.wrong))
          (a_told args.p args.w.now _ all c.flag-a.ensures.flag) (r_told args.p args.w.now _ all c.flag-r.ensures.flag)
          (rw rest_lent at c.in-Some.ensures.stands) c.limit.ensures.limit refl;
    }
