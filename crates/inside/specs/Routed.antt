-- What a router makes of a message that it passes on (6.2.2, 6.5.2).
use Rattle.std.specs.Prelude.{◌≡◌, ◌⊎◌, ℕ, ◌-◌, List, [], ◌∷◌, Option, Some, None}
use Rattle.npdu.specs.Header.{Header, PlainDestination, PlainSource, Spells, canonical}
use Rattle.npdu.specs.Mac.{mac_octets, mac_of}
use Rattle.npdu.specs.declared.mac.Mac.{Mac}
use Rattle.npdu.specs.declared.mac.Target.{Target}
use Rattle.npdu.specs.declared.mac.Target.TheVariants.{One, All}
use Rattle.npdu.specs.declared.parcel.Parcel.{Parcel}
use Rattle.npdu.specs.declared.view.Dnet.TheVariants.{Network}

-- SNET and SADR that it has, else the network where it was heard and who sent it there (6.5.2)
abbrev pub source_on : ℕ → Mac → Option PlainSource → PlainSource
source_on net from None = record { net = net; mac = mac_octets from }
source_on net from (Some s) = s

-- with one hop less (6.2.3)
abbrev pub lowered : PlainDestination → PlainDestination
lowered d = record d { hops = d.hops - 1 }

-- its header on the way (6.5.2)
abbrev pub on_way : ℕ → Mac → PlainDestination → Header → Header
on_way net from d h = record h { destination = Some (lowered d); source = Some (source_on net from h.source) }

-- its header on the last network, without DNET, DADR and hop count (6.5.2)
abbrev pub at_last : ℕ → Mac → Header → Header
at_last net from h = record h { destination = None; source = Some (source_on net from h.source) }

-- the one with this address, if there is one
abbrev pub to_mac : Option Mac → Option Target
to_mac None = None
to_mac (Some mac) = Some (One mac)

-- whom DADR names on the last network: no octets are all of it (6.2.2)
abbrev pub target_of : List ℕ → Option Target
target_of [] = Some All
target_of (octet ∷ more) = to_mac (mac_of (octet ∷ more))

-- a message that was heard on a network goes on to another in this parcel (6.5.2)
pub record GoesOn {A : Type 0} (net : ℕ) (p : Parcel A) (h : Header) (d : PlainDestination) (q : Parcel A) :
    Type 0 where
  pub npdu : q.npdu ≡ canonical (on_way net p.from d h)

-- it has come to its last network in this parcel (6.5.2)
pub record Arrives {A : Type 0} (net other : ℕ) (p : Parcel A) (h : Header) (d : PlainDestination) (q : Parcel A) :
    Type 0 where
  pub last : d.net ≡ Network other
  pub target : target_of d.mac ≡ Some q.to
  pub npdu : q.npdu ≡ canonical (at_last net p.from h)

-- a parcel that was heard on a network is passed on to another in this one, with its stamp (6.5.2)
pub record IsRouted {A : Type 0} (net other : ℕ) (p q : Parcel A) : Type 0 where
  pub header : Header
  pub spelled : Spells p.npdu header
  pub destination : PlainDestination
  pub is : header.destination ≡ Some destination
  pub stamp : q.stamp ≡ p.stamp
  pub how : GoesOn net p header destination q ⊎ Arrives net other p header destination q
