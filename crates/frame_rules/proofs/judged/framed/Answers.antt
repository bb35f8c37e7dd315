-- What the pass gathered answers as the checks do (`frame_by`); each return then rewrites `by_facts` by the tests made before it.
use native.Mathlib.Omega.{arith}
use mathlib.Core.Path.{◌≡◌, sym, ◌∙◌, ap}
use mathlib.Core.Bool.{false, not}
use borrow.Author.Tests.{eq-eqb, ne_eqb, not-true, not-false}
use Rattle.octets.specs.Octets.{be16}
use Rattle.answers.specs.Numbers.{route_empty, kinds_mixed, none_of_form}
use Rattle.answers.specs.Verdicts.{refused_by, accepted_with, refusal_of}
use Rattle.frame.specs.Gathered.{gathered, no_facts}
use Rattle.frame.proofs.Laws.{headed_sized}
use Rattle.frame_rules.proofs.Laws.{header_broken, frame_by, by_facts}
use Rattle.frame_rules.proofs.judged.framed.Goals as goal

pub returns-then-not-is_headed : goal.returns-then-not-is_headed
returns-then-not-is_headed c = record { framed = ap refusal_of c.into.ensures ∙ header_broken _ _ _ _ c.is_headed.ensures.headed (ap not c.if-not-is_headed.true) }

pub look-requires : goal.look-requires
unfolding be16
look-requires c =
    let h = headed_sized c.args.ero c.args.s.now
    (sym c.is_headed.ensures.headed ∙ c.if-not-is_headed.false) in (
      h.low,
      h.four,
      omega (arith, h.read, c.shared_slice_known-1.given 2, c.shared_slice_known-1.given 3),
      rw (← c.octet.ensures.octet.0) c.kind-first.ensures.kind,
    )

pub returns-in_default : goal.returns-in_default
returns-in_default c =
    record {
      framed = ap refusal_of c.into-in_default.ensures
          ∙ frame_by _ _ _ _ (no_facts false) c.is_headed.ensures.headed (ap not c.if-not-is_headed.false) c.in_default.ensures.facts;
    }

pub returns-then-g-eq0 : goal.returns-then-g-eq0
returns-then-g-eq0 c =
    let e : refused_by route_empty 0 ≡ by_facts (gathered c.in-Some.g) = rw (eq-eqb _ _ c.if-g-eq0.true) in
    record { framed = ap refusal_of c.into-then-g-eq0.ensures ∙ e ∙ frame_by _ _ _ _ _ c.is_headed.ensures.headed (ap not c.if-not-is_headed.false) c.in-Some.ensures.facts }

pub returns-then-not-g : goal.returns-then-not-g
returns-then-not-g c =
    let e : refused_by none_of_form 0 ≡ by_facts (gathered c.in-Some.g) = rw (ne_eqb _ _ c.if-g-eq0.false, not-true c.in-Some.g.any c.if-not-g.true) in
    record { framed = ap refusal_of c.into-then-not-g.ensures ∙ e ∙ frame_by _ _ _ _ _ c.is_headed.ensures.headed (ap not c.if-not-is_headed.false) c.in-Some.ensures.facts }

pub returns-in-Some-other : goal.returns-in-Some-other
returns-in-Some-other c =
    let other = c.in-Some-other.is in
    let placed = rw other at c.in-Some.ensures.placed in
    let e : refused_by kinds_mixed c.in-Some-other.place ≡ by_facts (gathered c.in-Some.g) = rw (
      ne_eqb _ _ c.if-g-eq0.false,
      not-false c.in-Some.g.any c.if-not-g.false,
      other,
      ne_eqb c.in-Some-other.place 0 (λ z. omega (arith, placed, z)),
    ) in
    record { framed = e ∙ frame_by _ _ _ _ _ c.is_headed.ensures.headed (ap not c.if-not-is_headed.false) c.in-Some.ensures.facts }

pub returns-in-None : goal.returns-in-None
returns-in-None c =
    let e : accepted_with c.in-Some.g.count ≡ by_facts (gathered c.in-Some.g) = rw (
      ne_eqb _ _ c.if-g-eq0.false,
      not-false c.in-Some.g.any c.if-not-g.false,
      c.in-None.is,
    ) in
    record { framed = e ∙ frame_by _ _ _ _ _ c.is_headed.ensures.headed (ap not c.if-not-is_headed.false) c.in-Some.ensures.facts }
