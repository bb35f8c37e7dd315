use Rattle.route_limit.proofs.Laws.{not_own, own_short, own_told}
use Rattle.octets.proofs.Laws.{part_lent}
use Rattle.route_limit.proofs.own_adjacency.Goals as goal

pub returns-then-not-adjacency : goal.returns-then-not-adjacency
returns-then-not-adjacency c = let args = c.args in record { own = not_own args.s.now args.addresses.now _ c.octet.ensures.octet.0 c.adjacency.ensures.adjacency (c.if-not-adjacency.true) }

pub returns-then-s-at : goal.returns-then-s-at
returns-then-s-at c =
    let args = c.args in record {
      own = own_short args.s.now args.addresses.now _ c.octet.ensures.octet.0 _ c.octet-2.ensures.octet.0 _
          c.local_place-at.ensures.place.0 c.if-s-at.true;
    }

pub returns : goal.returns
returns c =
    let args = c.args in record {
      own = own_told args.s.now args.addresses.now _ c.octet.ensures.octet.0 _ c.octet-2.ensures.octet.0 _
          c.local_place-at.ensures.place.0 c.adjacency.ensures.adjacency
          (c.if-not-adjacency.false) (rw part_lent at c.has.ensures.found);
    }
