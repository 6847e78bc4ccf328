-- What is promised of the nodes that a site opens with, and of a directory that they are found by.
use Rattle.std.specs.Prelude.{◌≡◌, ℕ, List, [], ◌∷◌, map, Some, slice_get, slice_set}
use Rattle.std.specs.List.{AllByRecursion}
use Rattle.node_laws.specs.carry_said.headline_site.headline.Protocol.{IsSite}
use Rattle.node_laws.specs.carry_said.headline_site.headline_bacnet.Protocol.{bacnet}
use Rattle.node_laws.specs.carry_said.headline_site.headline_bacnet.Refined.{ObjectSite}
use Rattle.node_laws.specs.carry_said.headline_site.headline_client.Safe as client_side
use Rattle.node_laws.specs.carry_said.headline_site.headline_device.Devices as device_side
use Rattle.node_laws.specs.carry_said.headline_site.headline_device.Devices.{HasNumbers}
use Rattle.node_laws.specs.carry_said.headline_site.Fair.{IsNewClient, IsNewDevice}
use Rattle.node_laws.specs.Stands.{Stands}
use Rattle.npdu.specs.declared.mac.Station as npdu
use Rattle.object_model.specs.declared.site.SiteObjects.{SiteObjects}
use Rattle.remembered.specs.Records.{AreDistinct}
use Rattle.site.specs.Sound.{IsSound}
use Rattle.node_laws.specs.site_node.Node.{NodeState, node_places}
use Rattle.node_laws.specs.site_node.device.Device.{DeviceState, new_device}
use Rattle.site_parts.specs.declared.parts.Parts.{Parts}
use Rattle.site_views.specs.Views.{addresses_of}
use Rattle.world_sites.specs.Directory.{DirectoryState, Leads}
use Rattle.world_sites.specs.Nodes.{IsOfSite, clients_of, devices_of}
use Rattle.world_sites.specs.Opening.{devices_in, object_site, opening_nodes}

-- the devices of a sound site are a site of the promise (12.11)
abbrev pub DevicesAreSite : Type 0 → Type 0
DevicesAreSite A = (p : Parts A) → IsSound p → IsSite (bacnet A) (object_site p)

-- all that a fresh world asks of its nodes: its clients have asked nothing, its devices have their opening objects and
-- numbers that fit, and no two clients and no two devices are at one station
pub record AreFresh {A : Type 0} (s : ObjectSite A) (ns : List (NodeState A)) : Type 0 where
  pub clients : AllByRecursion IsNewClient (clients_of ns)
  pub devices : AllByRecursion (IsNewDevice s) (devices_of ns)
  pub clients_apart : AreDistinct (map client_side.station_of (clients_of ns))
  pub devices_apart : AreDistinct (map device_side.station_of (devices_of ns))
  pub numbers : AllByRecursion HasNumbers (devices_of ns)

-- so are those that a sound site opens with
abbrev pub NodesAreFresh : Type 0 → Type 0
NodesAreFresh A = (p : Parts A) → IsSound p → AreFresh (object_site p) (opening_nodes p)

-- a device that opens with these objects, at some address
pub record IsOpened {A : Type 0} (o : SiteObjects A) (d : DeviceState A) : Type 0 where
  pub address : npdu.Station
  pub is : d ≡ new_device o address

-- so does each, in order
abbrev pub OpenAs : {A : Type 0} → List (SiteObjects A) → List (DeviceState A) → Type 0
OpenAs [] [] = Unit {0}
OpenAs (o ∷ os) (d ∷ ds) = IsOpened o d × OpenAs os ds
OpenAs os ds = ⊥

-- all devices that a sound site describes open, in its order, and no others
abbrev pub DevicesOpen : Type 0 → Type 0
DevicesOpen A = (p : Parts A) → IsSound p → OpenAs (devices_in p.stations) (devices_of (opening_nodes p))

-- each node stands as it must at the first moment, and is one of its site
abbrev pub NodesStand : Type 0 → Type 0
NodesStand A = (p : Parts A) → IsSound p → AllByRecursion (Stands 0) (opening_nodes p)

abbrev pub NodesAreOfSite : Type 0 → Type 0
NodesAreOfSite A = (p : Parts A) → IsSound p → AllByRecursion (λ n. IsOfSite (object_site p) n.part) (opening_nodes p)

-- each station of a sound site opens as one node, at its addresses, in the order of the site: their places agree
abbrev pub PlacesAgree : Type 0 → Type 0
PlacesAgree A = (p : Parts A) → IsSound p →
    map node_places (opening_nodes p) ≡ map (λ s. addresses_of p.stations s.role) p.stations

-- .. under its name
abbrev pub NamesAgree : Type 0 → Type 0
NamesAgree A = (p : Parts A) → IsSound p → map (λ n. n.name) (opening_nodes p) ≡ map (λ s. s.name) p.stations

-- a directory leads to where it led, where a node comes into the place of one that had its name and was where it is
abbrev pub LeadsStill : Type 0 → Type 0
LeadsStill A = (d : DirectoryState) (nodes : List (NodeState A)) (place : ℕ) (old new : NodeState A) →
    Leads d nodes → slice_get nodes place ≡ Some old → new.name ≡ old.name → node_places new ≡ node_places old →
    Leads d (slice_set nodes place new)
