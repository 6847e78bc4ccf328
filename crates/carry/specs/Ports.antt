-- What a port of BACnet/IP puts out of a parcel (J.4, J.5).
use Rattle.std.specs.Prelude.{ℕ, List, [], ◌∷◌, map}
use Rattle.bvll.specs.Datagram.{Datagram, broadcast, canonical, distribute, unicast}
use Rattle.npdu.specs.declared.mac.Mac.{Mac}
use Rattle.npdu.specs.declared.mac.Target.{Target}
use Rattle.npdu.specs.declared.mac.Target.TheVariants.{One, All}
use Rattle.npdu.specs.declared.parcel.Parcel.{Parcel}
use Rattle.carry.specs.Things.{SentDatagram, Thing}

-- how a port says a broadcast: itself to each other member of its subnet (J.4.5), or, as a foreign device, through its
-- broadcast manager (J.5)
pub data Port : Type 0 where
  Member : (others : List Mac) → Port
  Foreign : (manager : Mac) → Port

-- a datagram of a parcel to an address
abbrev pub datagram_to : {A : Type 0} → (net : ℕ) → Parcel A → (to : Mac) → Datagram → Thing A
datagram_to net p to d = SentDatagram net p.from to (canonical d) p.stamp

-- what it puts out for all of its network (J.2.10, J.2.12)
abbrev pub broadcasts : {A : Type 0} → (net : ℕ) → Port → Parcel A → List (Thing A)
broadcasts net (Member others) p = map (λ to. datagram_to net p to (broadcast p.npdu)) others
broadcasts net (Foreign manager) p = datagram_to net p manager (distribute p.npdu) ∷ []

-- what it puts out for a target (J.2.11)
abbrev pub down_to : {A : Type 0} → (net : ℕ) → Port → Target → Parcel A → List (Thing A)
down_to net port (One to) p = datagram_to net p to (unicast p.npdu) ∷ []
down_to net port All p = broadcasts net port p

-- what it puts out of a parcel
abbrev pub down : {A : Type 0} → (net : ℕ) → Port → Parcel A → List (Thing A)
down net port p = down_to net port p.to p
