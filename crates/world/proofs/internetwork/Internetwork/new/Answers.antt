use Rattle.std.proofs.Common.{◌∙◌, sym, ap, subst, List, arith}
use Rattle.std.specs.List.{AllByRecursion}
use Rattle.bus_traffic.specs.Bus.{BusState}
use Rattle.buses.specs.Buses.{buses_of}
use Rattle.buses.specs.Puts.{BusesState}
use Rattle.world_log.specs.site_node.Node.{NodeState}
use Rattle.world.proofs.Dues.{dues_none}
use Rattle.world.proofs.FreshLaws.{steady_new}
use Rattle.world.proofs.internetwork.Internetwork.new.Goals as goal
use Rattle.world.specs.Laws.{HasMacs}
use Rattle.world.specs.World.{fresh_world}
use Rattle.world_sites.specs.Directory.{Leads}

-- its nodes stand
pub open-requires : goal.open-requires
open-requires g c = record {
  steady = steady_new c.args.site c.in_ok-nodes.nodes.items c.in_ok-nodes.ensures.sound c.in_ok-nodes.ensures.nodes
      (subst (λ (ns : List (NodeState _)). AllByRecursion HasMacs ns) c.as_slice.ensures.value c.are_at_macs.ensures);
  leads = subst (λ (ns : List (NodeState _)). Leads c.in_ok-directory.directory ns) c.as_slice-2.ensures.value
      c.in_ok-directory.ensures;
  dues = dues_none c.in_ok-dues.dues c.in_ok-nodes.nodes.items c.len.result c.in_ok-dues.ensures
      (omega (arith, c.len.ensures, c.in_ok-nodes.nodes.ok.0));
}

-- it is fresh
pub returns-clause-fresh : goal.returns-clause-fresh
returns-clause-fresh g c = c.open.ensures
    ∙ ap (λ (ns : List (NodeState _)).
    record (fresh_world c.args.site) { nodes = ns; buses = buses_of c.new-buses.result }) c.in_ok-nodes.ensures.nodes
    ∙ ap (λ (bs : BusesState _). record (fresh_world c.args.site) { buses = bs }) (c.new-buses.ensures
    ∙ ap (λ (xs : List (BusState _)). record { buses = xs; frames = 0 }) c.in_ok-buses_of.ensures)

-- it was judged
pub returns-clause-sound : goal.returns-clause-sound
returns-clause-sound g c = c.in_ok-nodes.ensures.sound
