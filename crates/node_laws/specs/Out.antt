-- What a node puts out, and what waits in it, as things on their way.
use Rattle.std.specs.Prelude.{◌≡◌, List, Some, slice_get}
use Rattle.bvll.specs.Address.{IsAddress}
use Rattle.bvll.specs.declared.address.Address.{Address}
use Rattle.site_node.specs.carry.Datagrams.{mac_at}
use Rattle.site_node.specs.carry.Passing.{PassesOn}
use Rattle.site_node.specs.carry.Things.{Thing, Waiting}
use Rattle.history.specs.Lists.{Has}
use Rattle.link.specs.Step.{PortSent}
use Rattle.site_node.specs.link_site.Port.{station_of, waiting_in}
use Rattle.site_node.specs.link_site.Things.{thing_of}
use Rattle.site_node.specs.link_site.declared.port.SitePort.{SitePort}
use Rattle.npdu.specs.declared.mac.Mac.{Mac}
use Rattle.npdu.specs.declared.mac.Mac.TheVariants.{One, Six}
use Rattle.npdu.specs.declared.mac.Station.{Station}
use Rattle.npdu.specs.declared.parcel.Parcel.{Parcel}
use Rattle.site_node.specs.Node.{NodeState, home_of, node_places}
use Rattle.site_node.specs.Steps.{NodeTold}

-- this is the link address of a station of BACnet/IP (J.1.2)
pub record IsIpAddress (mac : Mac) : Type 0 where
  pub address : Address
  pub sound : IsAddress address
  pub is : mac ≡ mac_at address

-- this is a link address: of one octet, or that of a station of BACnet/IP (9, J.1.2)
abbrev pub IsMac : Mac → Type 0
IsMac (One n) = Unit {0}
IsMac (Six octets) = IsIpAddress (Six octets)

-- a parcel waits in a port at this place (9.5.6)
pub record IsWaitingIn {A : Type 0} (ports : List (SitePort A)) (x : Station) (p : Parcel A) : Type 0 where
  pub port : SitePort A
  pub there : Has ports port
  pub place : station_of port ≡ x
  pub waits : Has (waiting_in port) p

-- all that waits in a node is among these things
abbrev pub WaitsAmong : {A : Type 0} → List (Thing A) → NodeState A → Type 0
WaitsAmong {A} ts n = (x : Station) (p : Parcel A) → IsWaitingIn n.ports x p → Has ts (Waiting x.net p)

-- all that a node says itself is among these things
abbrev pub SaysAmong : {A : Type 0} → List (Thing A) → NodeState A → NodeTold A → Type 0
SaysAmong {A} ts n t = (p : Parcel A) → Has t.told.said p → Has ts (Waiting (home_of n.part).net p)

-- all that a node put out over its places, and all that waits in it then, passes on what is inside these things
pub record Passes {A : Type 0} (ts : List (Thing A)) (old : NodeState A) (out : List (PortSent A))
    (new : NodeState A) : Type 0 where
  pub puts : (o : PortSent A) (x : Station) → Has out o → slice_get (node_places old) o.port ≡ Some x →
      PassesOn ts (thing_of x o.sent)
  pub waits : (x : Station) (p : Parcel A) → IsWaitingIn new.ports x p → PassesOn ts (Waiting x.net p)
