-- What a port puts out (J.2, J.4.5, J.5.2).
use Rattle.std.specs.Prelude.{◌≡◌, ℕ, ◌&&◌, Bool, true, false, List, [], ◌∷◌, map, refl}
use Rattle.bvll.specs.Datagram.{Datagram, broadcast, canonical, distribute, register, unicast}
use Rattle.carry.specs.Datagrams.{mac_at}
use Rattle.carry.specs.Ports.{down}
use Rattle.carry.specs.Things.{SentDatagram, Thing}
use Rattle.link.specs.Limits.{is_target}
use Rattle.link.specs.declared.step.Sent.{Sent}
use Rattle.npdu.specs.Mac.{same_mac}
use Rattle.npdu.specs.declared.mac.Mac.{Mac}
use Rattle.npdu.specs.declared.mac.Station.{Station}
use Rattle.npdu.specs.declared.mac.Target.{Target}
use Rattle.npdu.specs.declared.mac.Target.TheVariants as target
use Rattle.npdu.specs.declared.parcel.Parcel.{Parcel}
use Rattle.link_ip.specs.Port.{IpPortState, port_of, station_of}
use Rattle.link_ip.specs.declared.port.Reach.{Reach}
use Rattle.link_ip.specs.declared.port.Reach.TheVariants.{Members, Foreign}

-- what a station puts out is then on its way
abbrev pub thing_of : {A : Type 0} → Station → Sent A → Thing A
thing_of station s = SentDatagram station.net station.mac s.to s.octets s.stamp

-- .. each of these
abbrev pub things_of : {A : Type 0} → Station → List (Sent A) → List (Thing A)
things_of station out = map (λ s. thing_of station s) out

-- a parcel is from the port's own address, and for all or for an address of BACnet/IP (6.1, J.1.2)
abbrev pub is_taken : {A : Type 0} → IpPortState A → Parcel A → Bool
is_taken port p = same_mac p.from (station_of port).mac && is_target (station_of port).mac p.to

-- what a port puts out of a parcel that it takes; it drops any other
abbrev pub put_out_if : {A : Type 0} → (taken : Bool) → IpPortState A → Parcel A → List (Thing A)
put_out_if true port p = down port.net (port_of port.reach) p
put_out_if false port p = []

-- what a port puts out of a parcel that is handed down (J.4.5, J.5)
abbrev pub put_out : {A : Type 0} → IpPortState A → Parcel A → List (Thing A)
put_out port p = put_out_if (is_taken port p) port p

-- a datagram to an address, said at a moment
abbrev pub sent : {A : Type 0} → Mac → Datagram → ℕ → Sent A
sent to d stamp = record { to = to; octets = canonical d; stamp = stamp }

-- the datagrams of a parcel to a target, each with its stamp (J.2.10 to J.2.12)
abbrev pub datagrams : {A : Type 0} → Reach A → Target → Parcel A → List (Sent A)
datagrams reach (target.One to) p = sent to (unicast p.npdu) p.stamp ∷ []
datagrams (Members others) target.All p = map (λ other. sent (mac_at other) (broadcast p.npdu) p.stamp) others
datagrams (Foreign manager seconds_to_live) target.All p = sent (mac_at manager) (distribute p.npdu) p.stamp ∷ []

-- those of a parcel that a port takes
abbrev pub says_if : {A : Type 0} → (taken : Bool) → IpPortState A → Parcel A → List (Sent A)
says_if true port p = datagrams port.reach p.to p
says_if false port p = []

-- those of a parcel that is handed down: as things on their way, `put_out`
abbrev pub says : {A : Type 0} → IpPortState A → Parcel A → List (Sent A)
says port p = says_if (is_taken port p) port p

-- what a port says where it registers: a foreign device its seconds to live to its manager (J.5.2)
abbrev pub registration : {A : Type 0} → Reach A → ℕ → List (Sent A)
registration (Members others) now = []
registration (Foreign manager seconds_to_live) now = sent (mac_at manager) (register seconds_to_live) now ∷ []

-- a row that a slip in a definition would break: a foreign device registers for 60 seconds at 127.0.0.1:47808
row_registration : {A : Type 0} →
    registration {A = A} (Foreign (record { ip = 127 ∷ 0 ∷ 0 ∷ 1 ∷ []; port = 0xBAC0 }) 60) 7
    ≡ record {
      to = mac_at (record { ip = 127 ∷ 0 ∷ 0 ∷ 1 ∷ []; port = 0xBAC0 });
      octets = 0x81 ∷ 0x05 ∷ 0x00 ∷ 0x06 ∷ 0x00 ∷ 0x3C ∷ [];
      stamp = 7;
    } ∷ []
row_registration = refl
