-- What a port hands up (J.2).
use Rattle.std.specs.Prelude.{◌≡◌, ℕ, List, Option, None, IsSome}
use Rattle.bvll.specs.Datagram.{Datagram, NoDatagram, Spells, distribute}
use Rattle.bvll.specs.Refusal.{Refuses}
use Rattle.carry.specs.Datagrams.{carried_by}
use Rattle.npdu.specs.declared.mac.Mac.{Mac}
use Rattle.npdu.specs.declared.mac.Mac.TheVariants.{One, Six}
use Rattle.npdu.specs.declared.parcel.Parcel.{Parcel}
use Rattle.tags.specs.declared.fault.Fault.{Fault}

-- what a datagram hands up: what it carries (J.2.5, J.2.11, J.2.12), but for what a manager is to distribute (J.2.10)
abbrev pub handed_up : {A : Type 0} → (from own : Mac) → (stamp : ℕ) → Datagram → Option (Parcel A)
handed_up from own stamp (distribute npdu) = None
handed_up from own stamp d = carried_by from own stamp d

-- octets spell a datagram, which hands this up, or nothing
pub record HandsUp {A : Type 0} (from own : Mac) (octets : List ℕ) (stamp : ℕ) (up : Option (Parcel A)) : Type 0 where
  pub datagram : Datagram
  pub spelled : Spells octets datagram
  pub is : up ≡ handed_up from own stamp datagram

-- .. where they come from an address of BACnet/IP: those from another are dropped
abbrev pub IsHeard : {A : Type 0} → (from own : Mac) → (octets : List ℕ) → (stamp : ℕ) → Option (Parcel A) → Type 0
IsHeard (Six from) own octets stamp up = HandsUp (Six from) own octets stamp up
IsHeard (One from) own octets stamp up = up ≡ None

-- octets spell a datagram that hands a parcel up
pub record HandsOneUp (A : Type 0) (from own : Mac) (octets : List ℕ) (stamp : ℕ) : Type 0 where
  pub datagram : Datagram
  pub spelled : Spells octets datagram
  pub one : IsSome (handed_up {A = A} from own stamp datagram)

-- .. where they come from an address of BACnet/IP: they aren't dropped
abbrev pub IsTaken : (A : Type 0) → (from own : Mac) → (octets : List ℕ) → (stamp : ℕ) → Type 0
IsTaken A (Six from) own octets stamp = HandsOneUp A (Six from) own octets stamp
IsTaken A (One from) own octets stamp = ⊥

-- octets spell no datagram, and are refused for this (J.2)
pub record IsNotRead (fault : Fault) (octets : List ℕ) : Type 0 where
  pub none : NoDatagram octets
  pub cause : Refuses fault octets

-- .. where they come from an address of BACnet/IP: those from another are dropped, and never refused
abbrev pub IsRefused : Fault → (from : Mac) → (octets : List ℕ) → Type 0
IsRefused fault (Six from) octets = IsNotRead fault octets
IsRefused fault (One from) octets = ⊥
