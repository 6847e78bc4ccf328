-- What goes over the networks of a site: datagrams and frames, by the kind of addresses (Table 6-2, 9.3, J.2).
use Rattle.std.specs.Prelude.{ℕ, List}
use Rattle.carry.specs.Datagrams.{IsDatagramOf}
use Rattle.carry.specs.Things.{SentDatagram, SentFrame, Thing}
use Rattle.link.specs.declared.step.Sent.{Sent}
use Rattle.link_bus.specs.Steps.{IsOnBus}
use Rattle.npdu.specs.declared.mac.Mac.{Mac}
use Rattle.npdu.specs.declared.mac.Mac.TheVariants.{One, Six}
use Rattle.npdu.specs.declared.mac.Station.{Station}
use Rattle.npdu.specs.declared.parcel.Parcel.{Parcel}

-- octets from an address to an address carry a parcel: a datagram's from an address of BACnet/IP (J.2), a frame's from
-- one of MS/TP (9.3)
abbrev pub Carries : {A : Type 0} → (from to : Mac) → (octets : List ℕ) → (stamp : ℕ) → Parcel A → Type 0
Carries (Six from) to octets stamp p = IsDatagramOf (Six from) to octets stamp p
Carries (One from) to octets stamp p = IsOnBus (One from) to octets stamp p

-- octets that go from an address to an address on a network, said at a moment, are then on their way
abbrev pub thing_at : {A : Type 0} → (net : ℕ) → (from to : Mac) → (octets : List ℕ) → (stamp : ℕ) → Thing A
thing_at net (Six from) to octets stamp = SentDatagram net (Six from) to octets stamp
thing_at net (One from) to octets stamp = SentFrame net octets stamp

-- .. those that a station puts out
abbrev pub thing_of : {A : Type 0} → Station → Sent A → Thing A
thing_of place s = thing_at place.net place.mac s.to s.octets s.stamp
