-- The clients and devices among the nodes of a world (5.4, 12).
use Rattle.std.specs.Prelude.{◌≡◌, List, [], ◌∷◌, Some}
use Rattle.std.specs.List.{flat_map}
use Rattle.node_laws.specs.carry_said.headline_site.headline_bacnet.Refined.{ObjectSite}
use Rattle.node_laws.specs.site_node.Node.{NodeState, home_of}
use Rattle.node_laws.specs.site_node.client.Client.{ClientState}
use Rattle.node_laws.specs.site_node.declared.part.Part.{Part}
use Rattle.node_laws.specs.site_node.declared.part.Part.TheVariants.{Device, Client}
use Rattle.node_laws.specs.site_node.device.Device.{DeviceState}

-- the client that a part is, if it is one
abbrev pub client_of : {A : Type 0} → Part A → List (ClientState A)
client_of (Client c) = c ∷ []
client_of part = []

-- the device that a part is, if it is one
abbrev pub device_of : {A : Type 0} → Part A → List (DeviceState A)
device_of (Device d) = d ∷ []
device_of part = []

-- the clients and the devices of these nodes, in their order
abbrev pub clients_of : {A : Type 0} → List (NodeState A) → List (ClientState A)
clients_of ns = flat_map (λ n. client_of n.part) ns

abbrev pub devices_of : {A : Type 0} → List (NodeState A) → List (DeviceState A)
devices_of ns = flat_map (λ n. device_of n.part) ns

-- a part is one of the site: a device has the instance that the site has at its station (12.11)
abbrev pub IsOfSite : {A : Type 0} → ObjectSite A → Part A → Type 0
IsOfSite s (Device d) = s.instance_of (home_of (Device d)) ≡ Some d.instance
IsOfSite s part = Unit {0}
