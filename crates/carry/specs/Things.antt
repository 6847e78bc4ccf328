-- What is on its way on the networks of a site, the parcels that it bears, and whether what is inside them was said.
use Rattle.std.specs.Prelude.{◌≡◌, ℕ, List}
use Rattle.history.specs.Lists.{Has}
use Rattle.inside.specs.Inside.{HasInside, Inside, Said}
use Rattle.npdu.specs.declared.mac.Mac.{Mac}
use Rattle.npdu.specs.declared.parcel.Parcel.{Parcel}
use Rattle.carry.specs.Datagrams.{IsDatagramOf}
use Rattle.carry.specs.Frames.{IsFrameOf}

-- a datagram that was sent on a network of BACnet/IP; a frame that was sent on a bus; a parcel that waits in a port
pub data Thing (A : Type 0) : Type 0 where
  SentDatagram : (net : ℕ) (from to : Mac) (octets : List ℕ) (stamp : ℕ) → Thing A
  SentFrame : (net : ℕ) (octets : List ℕ) (stamp : ℕ) → Thing A
  Waiting : (net : ℕ) (parcel : Parcel A) → Thing A

-- the network that it is on
abbrev pub net_of : {A : Type 0} → Thing A → ℕ
net_of (SentDatagram net from to octets stamp) = net
net_of (SentFrame net octets stamp) = net
net_of (Waiting net parcel) = net

-- the moment at which what it bears was said, in milliseconds
abbrev pub stamp_of : {A : Type 0} → Thing A → ℕ
stamp_of (SentDatagram net from to octets stamp) = stamp
stamp_of (SentFrame net octets stamp) = stamp
stamp_of (Waiting net parcel) = parcel.stamp

-- it bears this parcel, by what its octets spell (9.3, J.2)
abbrev pub Bears : {A : Type 0} → Thing A → Parcel A → Type 0
Bears (SentDatagram net from to octets stamp) p = IsDatagramOf from to octets stamp p
Bears (SentFrame net octets stamp) p = IsFrameOf octets stamp p
Bears (Waiting net parcel) p = p ≡ parcel

-- whatever is inside what it bears is among what was said, with its stamp
pub record IsCarried {A : Type 0} (said : List Said) (t : Thing A) : Type 0 where
  pub carries : (p : Parcel A) (i : Inside) → Bears t p → HasInside (net_of t) p.from p.to p.npdu i →
      Has said (record { inside = i; stamp = p.stamp })

-- each of these is carried
abbrev pub AreCarried : {A : Type 0} → List Said → List (Thing A) → Type 0
AreCarried {A} said ts = (t : Thing A) → Has ts t → IsCarried said t
