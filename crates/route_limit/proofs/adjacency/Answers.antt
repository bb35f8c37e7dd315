use Rattle.std.proofs.Common.{rules}
use Rattle.route_limit.specs.FirstOff.{is_adjacency}
use Rattle.route_limit.proofs.adjacency.Goals as goal

pub returns-then-nt-eq-ADJACENCY : goal.returns-then-nt-eq-ADJACENCY
unfolding is_adjacency
returns-then-nt-eq-ADJACENCY c = search rules

pub returns-else-nt-eq-ADJACENCY : goal.returns-else-nt-eq-ADJACENCY
unfolding is_adjacency
returns-else-nt-eq-ADJACENCY c = search rules
