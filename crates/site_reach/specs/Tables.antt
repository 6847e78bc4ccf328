-- The tables of the broadcast managers of an internetwork, and whom they serve (J.4.3, J.5.2).
use Rattle.std.specs.Prelude.{◌≡◌, ◌≤◌, ◌==◌, ◌&&◌, if◌then◌else◌, ℕ, true, List, [], ◌∷◌, map, Option, Some, None}
use Rattle.std.specs.List.{AllByRecursion}
use Rattle.bbmd.specs.Reach.{times}
use Rattle.bbmd.specs.declared.spreading.Subnet.{Subnet}
use Rattle.bbmd_manager.specs.State.{ManagerState}
use Rattle.bbmd_tables.specs.Tables.{is_among, same_address, served}
use Rattle.bbmd_tables.specs.declared.registration.Registration.{Registration}
use Rattle.bvll.specs.Address.{IsAddress}
use Rattle.bvll.specs.Datagram.{Spells, register}
use Rattle.bvll.specs.declared.address.Address.{Address}
use Rattle.carry.specs.Datagrams.{mac_at}
use Rattle.history.specs.Lists.{Has}
use Rattle.link_ip.specs.declared.port.Reach.{Reach}
use Rattle.link_ip.specs.declared.port.Reach.TheVariants as reach
use Rattle.link_site.specs.declared.port.SitePort.{SitePort}
use Rattle.link_site.specs.declared.port.SitePort.TheVariants.{Ip, Bus}
use Rattle.site.specs.Sound.{IsSound}
use Rattle.site_node.specs.Node.{NodeState}
use Rattle.site_node.specs.declared.part.Part.{Part}
use Rattle.site_node.specs.declared.part.Part.TheVariants.{Manager}
use Rattle.site_parts.specs.Roles.{beyond}
use Rattle.site_parts.specs.declared.parts.Station.{Station}
use Rattle.site_parts.specs.declared.place.Foreign.{Foreign}
use Rattle.site_views.specs.Laws.{first, foreigns_on, managers_on, subnet_of, subnets_with}
use Rattle.site_views.specs.Views.{managers, members}
use Rattle.traffic.specs.declared.item.Item.{Item}
use Rattle.world.specs.World.{WorldState}

-- the foreign device table of a part, where that is the manager at an address of a network, and else this one
abbrev pub table_in : {A : Type 0} → (net : ℕ) → Address → Part A → List Registration → List Registration
table_in net own (Manager n m) rest =
    if (n == net) && same_address m.tables.own own then m.tables.foreign else rest
table_in net own part rest = rest

-- the foreign device table of the manager at an address of a network, as it stands
abbrev pub table_at : {A : Type 0} → (net : ℕ) → Address → List (NodeState A) → List Registration
table_at net own [] = []
table_at net own (n ∷ ns) = table_in net own n.part (table_at net own ns)

abbrev pub table_of : {A : Type 0} → (net : ℕ) → Option Address → List (NodeState A) → List Registration
table_of net None ns = []
table_of net (Some own) ns = table_at net own ns

-- the foreign device tables of a network as they stand, by the numbers of its subnets
abbrev pub tables_in : {A : Type 0} → WorldState A → (net subnet : ℕ) → List Registration
tables_in w net subnet = table_of net (first (managers_on (subnet_of net subnet) w.site.stations)) w.nodes

-- the subnets of a network, with their members, and their managers with their tables as they stand (J.4)
abbrev pub subnets_in : {A : Type 0} → WorldState A → (net : ℕ) → List (Subnet A)
subnets_in w net = subnets_with w.moment net w.site.stations (tables_in w net)

-- each foreign device of a network is registered at its manager, and its registration lives (J.5.2)
pub record AreServed {A : Type 0} (w : WorldState A) (net : ℕ) : Type 0 where
  pub each : (subnet : ℕ) (a : Address) →
      is_among a (foreigns_on (subnet_of net subnet) w.site.stations) ≡ true →
      is_among a (served w.moment (tables_in w net subnet)) ≡ true

-- this is a foreign device of the manager at this address of a network (J.5)
pub record IsForeignOf {A : Type 0} (ss : List (Station A)) (net : ℕ) (own manager : Address) : Type 0 where
  pub subnet : ℕ
  pub manages : Has (managers_on (subnet_of net subnet) ss) manager
  pub is_there : is_among own (foreigns_on (subnet_of net subnet) ss) ≡ true
  pub sound : IsAddress own

-- a manager of a network knows the members of its subnet and the managers of that network, and none is registered there
-- but foreign devices of its own, each once (J.4.3, J.5.2)
pub record HasItsTable {A : Type 0} (ss : List (Station A)) (net : ℕ) (m : ManagerState) : Type 0 where
  pub subnet : ℕ
  pub manages : Has (managers_on (subnet_of net subnet) ss) m.tables.own
  pub knows : m.tables.members ≡ members (subnet_of net subnet) ss
  pub peers : m.tables.managers ≡ managers net ss
  pub just : AllByRecursion (λ r. is_among r.device (foreigns_on (subnet_of net subnet) ss) ≡ true) m.tables.foreign
  pub once : (a : Address) → times a (map (λ r. r.device) m.tables.foreign) ≤ 1

-- .. where a part is one; such a node has no port (J.4)
abbrev pub HasItsTableIfAny : {A : Type 0} → List (Station A) → Part A → List (SitePort A) → Type 0
HasItsTableIfAny ss (Manager net m) ports = HasItsTable ss net m × (ports ≡ [])
HasItsTableIfAny ss part ports = Unit {0}

-- a station reaches its network as a foreign device of the site does, or as a member (J.4.5, J.5)
abbrev pub IsPlacedBy : {A : Type 0} → List (Station A) → (net : ℕ) → Address → Reach A → Type 0
IsPlacedBy ss net own (reach.Members others) = Unit {0}
IsPlacedBy ss net own (reach.Foreign manager seconds) = IsForeignOf ss net own manager

-- a port of a foreign device is that of one of the site: on a bus is none (J.5.2)
abbrev pub IsPlaced : {A : Type 0} → List (Station A) → SitePort A → Type 0
IsPlaced ss (Ip l) = IsPlacedBy ss l.net l.address l.reach
IsPlaced ss (Bus l) = Unit {0}

-- a node is as its site has it: a manager has its table, and a port of a foreign device is one of the site's
pub record IsInOrder {A : Type 0} (ss : List (Station A)) (n : NodeState A) : Type 0 where
  pub table : HasItsTableIfAny ss n.part n.ports
  pub ports : AllByRecursion (IsPlaced ss) n.ports

-- an item goes from a foreign device to its manager
pub record IsToItsManager {A : Type 0} (ss : List (Station A)) (i : Item A) : Type 0 where
  pub own : Address
  pub manager : Address
  pub from : i.from ≡ mac_at own
  pub to : i.to ≡ mac_at manager
  pub is_foreign : IsForeignOf ss i.net own manager

-- nobody but a foreign device of the site registers, and at no other manager but its own (J.5.2)
pub record IsRightful {A : Type 0} (ss : List (Station A)) (i : Item A) : Type 0 where
  pub registers : (seconds : ℕ) → Spells i.octets (register seconds) → IsToItsManager ss i

-- the managers of an internetwork have the tables that its site gives them, and serve foreign devices of the site alone
pub record HasItsTables {A : Type 0} (w : WorldState A) : Type 0 where
  pub sound : IsSound w.site
  pub nodes : AllByRecursion (IsInOrder w.site.stations) w.nodes
  pub items : AllByRecursion (IsRightful w.site.stations) w.items

-- the address of a foreign device has four octets and a port, as each that is read has (J.1.2)
abbrev pub HasAddress : {A : Type 0} → Option (Foreign A) → Type 0
HasAddress None = Unit {0}
HasAddress (Some f) = IsAddress f.address

abbrev pub HaveAddresses : {A : Type 0} → List (Station A) → Type 0
HaveAddresses ss = AllByRecursion (λ s. HasAddress (beyond s.role)) ss
