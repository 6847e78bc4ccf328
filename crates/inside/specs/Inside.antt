-- What is inside a message on a network: who says it, whom it is for, and the octets of its APDU (6.2, 6.3, 6.5).
use Rattle.std.specs.Prelude.{◌≡◌, ℕ, List, [], ◌∷◌, Option, Some, None}
use Rattle.npdu.specs.Header.{Header, PlainDestination, Spells}
use Rattle.npdu.specs.Mac.{mac_of, station_at}
use Rattle.npdu.specs.Sender.{sender}
use Rattle.npdu.specs.declared.mac.Mac.{Mac}
use Rattle.npdu.specs.declared.mac.Station.{Station}
use Rattle.npdu.specs.declared.mac.Target.{Target}
use Rattle.npdu.specs.declared.mac.Target.TheVariants as target
use Rattle.npdu.specs.declared.parcel.Parcel.{Parcel}
use Rattle.npdu.specs.declared.view.Dnet.{Dnet}
use Rattle.npdu.specs.declared.view.Dnet.TheVariants as dnet
use Rattle.inside.specs.declared.reach.Reach.{Reach}
use Rattle.inside.specs.declared.reach.Reach.TheVariants as reach

-- the stations that a message is for (6.3)
abbrev pub Covers : Reach → Station → Type 0
Covers (reach.One station) hearer = station ≡ hearer
Covers (reach.Network net) hearer = hearer.net ≡ net
Covers reach.All hearer = Unit {0}

-- a target on one network reaches the station with this address there (6.3)
abbrev pub Reaches : Target → Mac → Type 0
Reaches (target.One to) mac = to ≡ mac
Reaches target.All mac = Unit {0}

-- whom a target on a network is (6.3)
abbrev pub linked : ℕ → Target → Reach
linked net (target.One mac) = reach.One (record { net = net; mac = mac })
linked net target.All = reach.Network net

-- one station, if there is one
abbrev pub to_station : Option Station → Option Reach
to_station None = None
to_station (Some station) = Some (reach.One station)

-- whom DADR names on a network: no octets are all of it (6.2.2)
abbrev pub at_address : ℕ → List ℕ → Option Reach
at_address net [] = Some (reach.Network net)
at_address net (octet ∷ more) = to_station (station_at net (mac_of (octet ∷ more)))

-- whom DNET and DADR name (6.2.2)
abbrev pub named : Dnet → List ℕ → Option Reach
named dnet.Global mac = Some reach.All
named (dnet.Network net) mac = at_address net mac

-- whom a message on a network is for: whom DNET and DADR name, else the target on the link (6.2.2)
abbrev pub reach_of : ℕ → Target → Option PlainDestination → Option Reach
reach_of net to None = Some (linked net to)
reach_of net to (Some d) = named d.net d.mac

-- who says it, whom it is for, and the octets of its APDU
pub record Inside : Type 0 where
  pub source : Station
  pub reach : Reach
  pub apdu : List ℕ

-- a header has this inside, sent from an address to a target on a network; a network message has nothing (6.2.4)
pub record IsInside (net : ℕ) (from : Mac) (to : Target) (h : Header) (i : Inside) : Type 0 where
  pub application : h.message ≡ None
  pub source : sender net from h.source ≡ Some i.source
  pub reach : reach_of net to h.destination ≡ Some i.reach
  pub apdu : h.body ≡ i.apdu

-- the octets of an NPDU have this inside
pub record HasInside (net : ℕ) (from : Mac) (to : Target) (npdu : List ℕ) (i : Inside) : Type 0 where
  pub header : Header
  pub spelled : Spells npdu header
  pub is : IsInside net from to header i

-- a parcel on a network has nothing inside
pub record HasNothingInside {A : Type 0} (net : ℕ) (p : Parcel A) : Type 0 where
  pub none : (i : Inside) → HasInside net p.from p.to p.npdu i → ⊥

-- what a message said, and the moment at which it was said
pub record Said : Type 0 where
  pub inside : Inside
  pub stamp : ℕ

-- this is what a parcel says on a network
pub record IsInsideOf {A : Type 0} (net : ℕ) (p : Parcel A) (s : Said) : Type 0 where
  pub inside : HasInside net p.from p.to p.npdu s.inside
  pub stamp : s.stamp ≡ p.stamp

-- this is what parcels say, one after another
abbrev pub AreInside : {A : Type 0} → ℕ → List (Parcel A) → List Said → Type 0
AreInside net [] [] = Unit {0}
AreInside net [] (s ∷ ss) = ⊥
AreInside net (p ∷ ps) [] = ⊥
AreInside net (p ∷ ps) (s ∷ ss) = IsInsideOf net p s × AreInside net ps ss
