use Rattle.route_limit.proofs.Laws.{in_rro, by_r, by_none, without_encaps, by_a, not_by_a}
use Rattle.route_limit.proofs.limit_for.Goals as goal

pub returns-then-not-ero : goal.returns-then-not-ero
returns-then-not-ero c = let args = c.args in record { limit = in_rro args.s.now args.ero args.session args.addresses.now (c.if-not-ero.true) }

pub returns-then-session : goal.returns-then-session
returns-then-session c = let args = c.args in record { limit = by_r args.s.now args.ero args.session args.addresses.now (c.if-not-ero.false) c.if-session.true c.one_more.ensures.more }

pub returns-then-not-session : goal.returns-then-not-session
returns-then-not-session c = let args = c.args in record { limit = by_none args.s.now args.ero args.session args.addresses.now c.if-session.false c.if-not-session.true }

pub returns-then-is_none : goal.returns-then-is_none
returns-then-is_none c = let args = c.args in record { limit = without_encaps args.s.now args.ero args.session args.addresses.now c.if-is_none.ensures }

pub returns-then-own_adjacency : goal.returns-then-own_adjacency
returns-then-own_adjacency c =
    let args = c.args in record {
      limit = by_a args.s.now args.ero args.session args.addresses.now (c.if-not-ero.false)
          c.if-not-session.false c.own_adjacency.ensures.own c.if-own_adjacency.true c.one_more-then-own_adjacency.ensures.more;
    }

pub returns : goal.returns
returns c = let args = c.args in record { limit = not_by_a args.s.now args.ero args.session args.addresses.now c.if-session.false c.own_adjacency.ensures.own c.if-own_adjacency.false }
