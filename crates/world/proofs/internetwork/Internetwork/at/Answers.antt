use Rattle.std.proofs.Common.{ap, subst, sym, List}
use Rattle.world_log.specs.site_node.Node.{NodeState}
use Rattle.world.proofs.FindingLaws.{steady_there}
use Rattle.world.proofs.internetwork.Internetwork.at.Goals as goal
use Rattle.world.specs.Laws.{IsSteady}
use Rattle.world.specs.World.{WorldState}
use Rattle.world_sites.specs.Directory.{LeadsByAddress}

-- the directory leads to the nodes
pub node_at-requires : goal.node_at-requires
node_at-requires g c = record {
  leads = subst (λ (ns : List (NodeState _)). LeadsByAddress c.self.inside.directory ns) (sym c.as_slice.ensures.value)
      c.self.invariant.1.addresses;
}

pub returns-in-Some-clause-there : goal.returns-in-Some-clause-there
returns-in-Some-clause-there g c =
    let f = ap (λ (w : WorldState _). w.nodes) c.self.view_is in record {
      at_address = cc (f, c.as_slice.ensures.value, c.in-Some.ensures.there.at_address);
      there = cc (f, c.as_slice.ensures.value, c.in-Some.ensures.there.there);
      port_is = c.in-Some.ensures.there.port_is;
    }

pub returns-in-Some-clause-steady : goal.returns-in-Some-clause-steady
returns-in-Some-clause-steady g c =
    subst (λ (w : WorldState _). IsSteady w.site w.moment c.in-Some.found.node.now) c.self.view_is
    (steady_there c.self.inside.site c.self.inside.moment c.self.inside.nodes.items c.self.inside.log.items.items
    c.in-Some.found.place c.in-Some.found.node.now c.self.invariant.0
    (cc (c.as_slice.ensures.value, c.in-Some.ensures.there.there)))
