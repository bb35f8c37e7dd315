use Rattle.std.proofs.Common.{rules}
use Rattle.std.proofs.lemmas.List.Sorted.{IsPartitionPoint-from_clause}
use Rattle.board_order.proofs.Halves.{in_reach, in_reach_place, in_reach_none, in_reach_first, partition_is}
use Rattle.board_order.proofs.halving.first_above.Goals as goal

pub returns : goal.returns
returns c =
    let b = c.args.b in
    record {
      first =
          partition_is b.versions.now b.order.now c.args.w _ (search rules) c.partition_point.ensures.bound
          (IsPartitionPoint-from_clause (in_reach b.versions.now b.order.now c.args.w) _ _ c.partition_point.ensures.partitioned
          (in_reach_first b.versions.now b.order.now c.args.w c.requires (search rules)) (λ a r f' k. search (rules, in_reach_place, in_reach_none)));
    }
