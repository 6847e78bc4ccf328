-- A datagram that nobody of the site sent, at an address of one of the site's networks.
use Rattle.std.specs.Prelude.{◌≡◌, ◌≢◌, ◌⊎◌, ℕ, List, Some, slice_get}
use Rattle.std.specs.List.{AllByRecursion}
use Rattle.simulator.specs.world.Straying.{StrayIsRefused, Strays, stray_item}
use Rattle.simulator.specs.world.World.{WorldState}
use Rattle.site_parts.specs.declared.parts.Network.{Network}
use Rattle.tags.specs.declared.fault.Fault.{Fault}
use Rattle.tags.specs.declared.fault.Fault.TheVariants.{NoSuch}
use Rattle.traffic.specs.declared.item.Item.{Item}
use Rattle.wire.specs.Datagrams.{Datagram}

-- as it comes to its address on this network
abbrev pub stray_on : {A : Type 0} → (net : ℕ) → Datagram → (now : ℕ) → Item A
stray_on net d now = stray_item d.from (record { net = net; mac = d.to }) d.octets now

-- the station at its address hears it
pub record TakesStray {A : Type 0} (d : Datagram) (w v : WorldState A) : Type 0 where
  pub net : ℕ
  pub strays : Strays (stray_on net d w.moment) w v

-- a network has no station at its address
pub record IsWithout {A : Type 0} (d : Datagram) (w : WorldState A) (n : Network) : Type 0 where
  pub refused : StrayIsRefused (stray_on n.number d w.moment) w NoSuch

-- none of these networks has one
abbrev pub AreWithout : {A : Type 0} → Datagram → WorldState A → List Network → Type 0
AreWithout d w networks = AllByRecursion (IsWithout d w) networks

-- it is refused on the network at this place of the site
pub record RefusesAt {A : Type 0} (d : Datagram) (w : WorldState A) (place : ℕ) (fault : Fault) : Type 0 where
  pub network : Network
  pub there : slice_get w.site.networks place ≡ Some network
  pub refused : StrayIsRefused (stray_on network.number d w.moment) w fault

-- the station at its address on a network of the site refuses it: not since nobody is there
pub record RefusesStray {A : Type 0} (d : Datagram) (w : WorldState A) (fault : Fault) : Type 0 where
  pub place : ℕ
  pub at : RefusesAt d w place fault
  pub other : fault ≢ NoSuch

-- why it is refused: no station has its address, or the one that has it refuses it
abbrev pub IsRefusedStray : {A : Type 0} → Datagram → WorldState A → Fault → Type 0
IsRefusedStray d w fault = ((fault ≡ NoSuch) × AreWithout d w w.site.networks) ⊎ RefusesStray d w fault
