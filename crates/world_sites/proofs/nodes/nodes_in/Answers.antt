use Rattle.std.specs.List.{flat_map}
use Rattle.world_sites.proofs.ListLaws.{all_done, holds_first, one_further}
use Rattle.world_sites.proofs.nodes.nodes_in.Goals as goal
use Rattle.world_sites.specs.Fit.{IsFit}
use Rattle.world_sites.specs.Opening.{opens}

pub put_node-requires : goal.put_node-requires
put_node-requires g c = record {
  fit = holds_first (λ s. IsFit c.args.all.now s.role) _ c.loop-left.left.now c.first-item.result c.first-item.is
      c.in-len1-up.len_at_least c.loop-left.invariant.1;
}

pub loop-left-preserved : goal.loop-left-preserved
loop-left-preserved g c = one_further (λ s. opens c.args.all.now s.name s.role) (λ s. IsFit c.args.all.now s.role)
    c.loop-left.out.items c.put_node.new.out.items
    (flat_map (λ s. opens c.args.all.now s.name s.role) c.args.stations.now) _ c.loop-left.left.now c.first-item.result
    c.first-item.is c.in-len1-up.len_at_least c.in_ok-put_node.ensures.put c.loop-left.invariant

pub returns-clause-nodes : goal.returns-clause-nodes
returns-clause-nodes g c = all_done (λ s. opens c.args.all.now s.name s.role) c.loop-left.out.items
    (flat_map (λ s. opens c.args.all.now s.name s.role) c.args.stations.now) c.loop-left.left.now c.in_default.len_below
    c.loop-left.invariant.0
