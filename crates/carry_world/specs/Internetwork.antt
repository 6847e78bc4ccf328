-- An internetwork: all stations of a site, what lies on its networks and waits at them, and what was said.
use Rattle.carry_said.specs.headline_site.headline_bacnet.Stations.{longest_of}
use Rattle.std.specs.Prelude.{◌≡◌, ◌⊎◌, ◌≤◌, ◌+◌, ℕ, List, [], ◌++◌}
use Rattle.std.specs.List.{AllByRecursion}
use Rattle.carry.specs.Passing.{PutsOut}
use Rattle.carry.specs.Things.{Bears, Thing, net_of}
use Rattle.carry_said.specs.device.Device.{DeviceState}
use Rattle.history.specs.Lists.{Has}
use Rattle.profile.specs.Times.{LIFE_MS}
use Rattle.inside.specs.Inside.{AreInside, Reaches, Said}
use Rattle.npdu.specs.declared.mac.Mac.{Mac}
use Rattle.npdu.specs.declared.mac.Station.{Station}
use Rattle.npdu.specs.declared.parcel.Parcel.{Parcel}
use Rattle.carry_said.specs.headline_site.headline_bacnet.Refined.{ObjectSite}
use Rattle.carry_said.specs.headline_site.headline_device.Devices.{station_of}
use Rattle.carry_said.specs.headline_site.headline_device.Devices.{HasNumbers}
use Rattle.carry_said.specs.headline_site.Fair as stations
use Rattle.carry_said.specs.headline_site.AllStations.{AllStations, now}

-- the stations over one book; all that was sent or waits in a port; all that application entities said, octet for octet
pub record Internetwork (A : Type 0) : Type 0 where
  pub world : AllStations A
  pub things : List (Thing A)
  pub said : List Said

-- a thing on this network that reaches the station with this address, at most LIFE_MS old, bears this parcel
pub record IsDelivered {A : Type 0} (n : Internetwork A) (net : ℕ) (mac : Mac) (p : Parcel A) : Type 0 where
  pub thing : Thing A
  pub there : Has n.things thing
  pub on : net_of thing ≡ net
  pub bears : Bears thing p
  pub reaches : Reaches p.to mac
  pub young : now n.world ≤ p.stamp + LIFE_MS

-- what is said in these parcels on this network is put out, and stands behind all that was said before; nothing else is
-- put out or said
pub record Adds {A : Type 0} (n v : Internetwork A) (net : ℕ) (ps : List (Parcel A)) : Type 0 where
  pub fresh : List Said
  pub insides : AreInside net ps fresh
  pub said : v.said ≡ n.said ++ fresh
  pub grows : (t : Thing A) → Has v.things t → Has n.things t ⊎ PutsOut net ps t

-- the site gives each device its greatest APDU, and its numbers fit (12.11, 20.2.14)
pub record IsSized {A : Type 0} (d : DeviceState A) : Type 0 where
  pub size : longest_of (station_of d) ≡ d.server.max_apdu
  pub numbers : HasNumbers d

-- nothing has happened yet, and nothing was sent or said
pub record IsBegun {A : Type 0} (s : ObjectSite A) (n : Internetwork A) : Type 0 where
  pub world : stations.IsBegun s n.world
  pub nothing : n.things ≡ []
  pub silent : n.said ≡ []
  pub sized : AllByRecursion IsSized n.world.devices
