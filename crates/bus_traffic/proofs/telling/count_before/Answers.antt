use Rattle.std.proofs.Common.{ltb, ltb-true, arith, rules}
use Rattle.std.proofs.lemmas.List.Sorted.{IsPartitionPoint-from_clause, IsPartitionedBy-ltb}
use Rattle.bus_traffic.specs.Sendings.{turn_of}
use Rattle.bus_traffic.proofs.telling.count_before.Goals as goal

pub returns-clause-before : goal.returns-clause-before
returns-clause-before g c =
    let parted = IsPartitionedBy-ltb turn_of c.args.recent.now c.args.frames c.requires in
    let point = IsPartitionPoint-from_clause (λ r. ltb (turn_of r) c.args.frames) _ _ c.partition_point.ensures.partitioned
    parted (λ a r q k. search rules) in
    λ k d from h. ltb-true _ _ (point.0 k d (omega arith) h)
