-- What is so of every world.
use Rattle.std.specs.Prelude.{◌≤◌, ℕ, List, Option, Some, None}
use Rattle.std.specs.List.{AllByRecursion}
use Rattle.world_log.specs.node_laws.Out.{IsMac}
use Rattle.world_log.specs.node_laws.Stands as node
use Rattle.npdu.specs.declared.mac.Station.{Station}
use Rattle.profile.specs.Times.{MAX_MOMENT_MS}
use Rattle.world_log.specs.site_node.Node.{NodeState, node_places}
use Rattle.site_parts.specs.declared.parts.Parts.{Parts}
use Rattle.traffic.specs.declared.item.Item.{Item}
use Rattle.world.specs.World.{WorldState}
use Rattle.world_log.specs.Growing.{AreFromMacs}
use Rattle.world_sites.specs.Nodes.{IsOfSite}
use Rattle.world_sites.specs.Opening.{object_site}

-- a place, if there is one, is at a link address: for private functions alone
abbrev pub IsMacIfAny : Option Station → Type 0
IsMacIfAny None = Unit {0}
IsMacIfAny (Some x) = IsMac x.mac

-- all places of a node are at link addresses (6.1)
abbrev pub HasMacs : {A : Type 0} → NodeState A → Type 0
HasMacs n = AllByRecursion (λ x. IsMac x.mac) (node_places n)

-- a node of a world stands as it must, has seen no later moment, is at link addresses, and if it is a device it is one
-- of the site
pub record IsSteady {A : Type 0} (site : Parts A) (moment : ℕ) (n : NodeState A) : Type 0 where
  pub stands : node.Stands moment n
  pub macs : HasMacs n
  pub of_site : IsOfSite (object_site site) n.part

-- so are all of these nodes, and each item is from a link address
pub record AreSteady {A : Type 0} (site : Parts A) (moment : ℕ) (nodes : List (NodeState A)) (items : List (Item A)) :
    Type 0 where
  pub each : AllByRecursion (IsSteady site moment) nodes
  pub from : AreFromMacs items
  pub greatest : moment ≤ MAX_MOMENT_MS

-- so is a whole world
abbrev pub Stands : {A : Type 0} → WorldState A → Type 0
Stands w = AreSteady w.site w.moment w.nodes w.items
