use Rattle.std.proofs.Common.{ap, subst, sym, List}
use Rattle.world_log.specs.site_node.Node.{NodeState}
use Rattle.world.proofs.internetwork.Internetwork.named.Goals as goal
use Rattle.world.specs.World.{WorldState}
use Rattle.world_sites.specs.Directory.{LeadsByName}

-- the directory leads to the nodes
pub node_named-requires : goal.node_named-requires
node_named-requires g c = record {
  leads = subst (λ (ns : List (NodeState _)). LeadsByName c.self.inside.directory ns) (sym c.as_slice.ensures.value)
      c.self.invariant.1.names;
}

pub returns-in-Some-clause-there : goal.returns-in-Some-clause-there
returns-in-Some-clause-there g c =
    let f = ap (λ (w : WorldState _). w.nodes) c.self.view_is in record {
      named = cc (f, c.as_slice.ensures.value, c.in-Some.ensures.there.named);
      there = cc (f, c.as_slice.ensures.value, c.in-Some.ensures.there.there);
    }
