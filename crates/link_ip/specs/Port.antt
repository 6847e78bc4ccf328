-- A port on a network of BACnet/IP: where it is, and how it reaches all of its network (J.1.2, J.4, J.5).
use Rattle.std.specs.Prelude.{ℕ, Bool, true, false, List, [], map}
use Rattle.bvll.specs.declared.address.Address.{Address}
use Rattle.carry.specs.Datagrams.{mac_at}
use Rattle.carry.specs.Ports as carry
use Rattle.link.specs.declared.step.Change.{Change}
use Rattle.link.specs.declared.step.Change.TheVariants.{Nothing, Moment, Whole}
use Rattle.npdu.specs.declared.mac.Station.{Station}
use Rattle.npdu.specs.declared.parcel.Parcel.{Parcel}
use Rattle.link_ip.specs.declared.port.Reach.{Reach}
use Rattle.link_ip.specs.declared.port.Reach.TheVariants.{Members, Foreign}

-- its network and its address there, how it reaches all of its network, and the moment of its last call
pub record IpPortState (A : Type 0) : Type 0 where
  pub net : ℕ
  pub address : Address
  pub reach : Reach A
  pub moment : ℕ

-- before its first call
abbrev pub new_port : {A : Type 0} → (net : ℕ) → Address → Reach A → IpPortState A
new_port net address reach = record { net = net; address = address; reach = reach; moment = 0 }

-- the station that it is on its network (J.1.2)
abbrev pub station_of : {A : Type 0} → IpPortState A → Station
station_of port = record { net = port.net; mac = mac_at port.address }

abbrev pub moment_of : {A : Type 0} → IpPortState A → ℕ
moment_of port = port.moment

-- nothing waits in it: it puts each parcel out at once
abbrev pub waiting_in : {A : Type 0} → IpPortState A → List (Parcel A)
waiting_in port = []

-- the same at a later moment
abbrev pub at_moment : {A : Type 0} → ℕ → IpPortState A → IpPortState A
at_moment now port = record port { moment = now }

-- it as an event at a moment leaves it: no call changes more than its moment
abbrev pub changed : {A : Type 0} → ℕ → IpPortState A → Change (IpPortState A) → IpPortState A
changed now port Nothing = port
changed now port Moment = at_moment now port
changed now port (Whole other) = at_moment now port

-- it is a foreign device's, which registers at a manager (J.5.2)
abbrev pub is_foreign : {A : Type 0} → Reach A → Bool
is_foreign (Members others) = false
is_foreign (Foreign manager seconds_to_live) = true

-- how it says a broadcast (J.4.5, J.5)
abbrev pub port_of : {A : Type 0} → Reach A → carry.Port
port_of (Members others) = carry.Member (map mac_at others)
port_of (Foreign manager seconds_to_live) = carry.Foreign (mac_at manager)
