use Rattle.capability_mpls.proofs.Laws.{announced_unsized, announced_free, announced_depthless, announced_depth}
use Rattle.capability_mpls.proofs.announced_mpls.Goals as goal

pub returns-then-w-ne-MPLS_SIZE : goal.returns-then-w-ne-MPLS_SIZE
returns-then-w-ne-MPLS_SIZE c = record { announced = announced_unsized _ c.if-w-ne-MPLS_SIZE.true }

pub returns-then-flags-eq1 : goal.returns-then-flags-eq1
returns-then-flags-eq1 c = record
    { announced = announced_free _ _ c.if-w-ne-MPLS_SIZE.false c.octet-flags.ensures.octet.0 c.if-flags-eq1.true }

pub returns-then-depth-eq0 : goal.returns-then-depth-eq0
returns-then-depth-eq0 c =
    record {
      announced = announced_depthless _ _ c.if-w-ne-MPLS_SIZE.false c.octet-flags.ensures.octet.0 _ c.if-flags-eq1.false c.octet-depth.ensures.octet.0 c.if-depth-eq0.true;
    }

pub returns : goal.returns
returns c =
    record {
      announced = announced_depth _ _ c.if-w-ne-MPLS_SIZE.false c.octet-flags.ensures.octet.0 _ c.if-flags-eq1.false c.octet-depth.ensures.octet.0 c.if-depth-eq0.false;
    }
