-- A node of a site: its name, its ports, and what it is (6.1).
use Rattle.std.specs.Prelude.{◌≡◌, ◌≤◌, ℕ, List, [], ◌∷◌}
use Rattle.bbmd_manager.specs.State.{ManagerState}
use Rattle.carry.specs.Datagrams.{mac_at}
use Rattle.link.specs.Step.{PortSent}
use Rattle.site_ports.specs.link_site.Port.{station_of}
use Rattle.site_ports.specs.link_site.declared.port.SitePort.{SitePort}
use Rattle.npdu.specs.declared.mac.Mac.TheVariants.{One}
use Rattle.npdu.specs.declared.mac.Station.{Station}
use Rattle.site_node.specs.declared.part.Part.{Part}
use Rattle.site_node.specs.declared.part.Part.TheVariants.{Device, Client, Router, Manager}
use Rattle.site_ports.specs.Drafts.{PortsState}
use Rattle.site_ports.specs.Ports.{AreBefore, places_of}

-- ports: in order; a broadcast manager, which hears datagrams at its one address, has none (J.4)
pub record NodeState (A : Type 0) : Type 0 where
  pub name : List ℕ
  pub ports : List (SitePort A)
  pub part : Part A

-- a manager of the network of a number is there, at its address (J.1.2)
abbrev pub manager_place : (net : ℕ) → ManagerState → Station
manager_place net m = record { net = net; mac = mac_at m.tables.own }

abbrev pub places_by : {A : Type 0} → Part A → List (SitePort A) → List Station
places_by (Manager net m) ports = manager_place net m ∷ []
places_by part ports = places_of ports

-- where it is: where each of its ports is, in order, and a manager at its one address (6.1, J.1.2)
abbrev pub node_places : {A : Type 0} → NodeState A → List Station
node_places n = places_by n.part n.ports

-- a router and a manager have no application entity: no station is on network 0 (6.2.2)
abbrev pub NOWHERE : Station
NOWHERE = record { net = 0; mac = One 0 }

-- where the application entity of a part is: a device's, or a client's (6.1)
abbrev pub home_of : {A : Type 0} → Part A → Station
home_of (Device d) = record { net = d.net; mac = d.mac }
home_of (Client c) = record { net = c.net; mac = c.mac }
home_of part = NOWHERE

-- the moment of the last call that its part didn't refuse
abbrev pub moment_of : {A : Type 0} → Part A → ℕ
moment_of (Device d) = d.server.moment
moment_of (Client c) = c.machine.moment
moment_of (Router r) = r.moment
moment_of (Manager net m) = m.moment

-- neither it nor any of its ports has seen a later moment
pub record IsBefore {A : Type 0} (now : ℕ) (n : NodeState A) : Type 0 where
  pub ports : AreBefore now n.ports
  pub part : moment_of n.part ≤ now

-- its ports where an event begins: nothing was put out
abbrev pub begun : {A : Type 0} → NodeState A → PortsState A
begun n = record { ports = n.ports; out = [] }

-- .. and where it ended, with what was put out
abbrev pub ended : {A : Type 0} → List (PortSent A) → NodeState A → PortsState A
ended out n = record { ports = n.ports; out = out }
