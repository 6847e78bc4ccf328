-- A port of a site, by its kind: where it is, and what waits in it (6.1).
use Rattle.std.specs.Prelude.{◌≡◌, ℕ, Bool, false, List}
use Rattle.link.specs.declared.step.Change.{Change}
use Rattle.link.specs.declared.step.Change.TheVariants.{Nothing, Moment, Whole}
use Rattle.link_bus.specs.Port as bus
use Rattle.link_ip.specs.Port as ip
use Rattle.npdu.specs.declared.mac.Station.{Station}
use Rattle.npdu.specs.declared.parcel.Parcel.{Parcel}
use Rattle.link_site.specs.declared.port.SitePort.{SitePort}
use Rattle.link_site.specs.declared.port.SitePort.TheVariants.{Ip, Bus}

-- the station that it is on its network (9.5.2, J.1.2)
abbrev pub station_of : {A : Type 0} → SitePort A → Station
station_of (Ip port) = ip.station_of port
station_of (Bus port) = bus.station_of port

-- the moment of its last call
abbrev pub moment_of : {A : Type 0} → SitePort A → ℕ
moment_of (Ip port) = ip.moment_of port
moment_of (Bus port) = bus.moment_of port

-- the parcels that wait to be put out: on a bus for the token, on BACnet/IP none (9.5.6)
abbrev pub waiting_in : {A : Type 0} → SitePort A → List (Parcel A)
waiting_in (Ip port) = ip.waiting_in port
waiting_in (Bus port) = bus.waiting_in port

-- it is a foreign device's, which registers at a manager (J.5.2): a bus has none
abbrev pub is_foreign : {A : Type 0} → SitePort A → Bool
is_foreign (Ip port) = ip.is_foreign port.reach
is_foreign (Bus port) = false

-- the same at a later moment
abbrev pub at_moment : {A : Type 0} → ℕ → SitePort A → SitePort A
at_moment now (Ip port) = Ip (ip.at_moment now port)
at_moment now (Bus port) = Bus (bus.at_moment now port)

-- what an event changes of a port of BACnet/IP, which has no more than its moment
abbrev pub ip_part : {A : Type 0} → Change (SitePort A) → Change (ip.IpPortState A)
ip_part Nothing = Nothing
ip_part c = Moment

-- two changes of a port of BACnet/IP leave the same at any moment
pub record AsIp {A : Type 0} (a b : Change (ip.IpPortState A)) : Type 0 where
  pub same : (now : ℕ) (port : ip.IpPortState A) → ip.changed now port b ≡ ip.changed now port a

-- .. of one on a bus
abbrev pub bus_part : {A : Type 0} → Change (SitePort A) → Change (bus.BusPortState A)
bus_part Nothing = Nothing
bus_part (Whole (Bus port)) = Whole port
bus_part c = Moment

-- it as an event at a moment leaves it: of its kind still
abbrev pub changed : {A : Type 0} → ℕ → SitePort A → Change (SitePort A) → SitePort A
changed now (Ip port) c = Ip (ip.changed now port (ip_part c))
changed now (Bus port) c = Bus (bus.changed now port (bus_part c))

-- after a restart at a moment: on a bus its node is as one made then (9.5.6, Initialize)
abbrev pub restarted : {A : Type 0} → ℕ → SitePort A → SitePort A
restarted now (Ip port) = Ip (ip.at_moment now port)
restarted now (Bus port) = Bus (bus.restarted now port)
