-- What is carried by whatever ports, nodes, buses, routers and broadcast managers do.
use Rattle.std.specs.Prelude.{◌≡◌, ◌⊎◌, ℕ, ◌<◌, ◌≤◌, true, false, List, [], ◌∷◌, ◌++◌, length, Some}
use Rattle.bbmd_manager.specs.Manager.{IsHeard}
use Rattle.bbmd_manager.specs.State.{ManagerState}
use Rattle.bbmd_manager.specs.declared.saying.Outgoing.{Outgoing}
use Rattle.bvll.specs.Address.{IsAddress}
use Rattle.bvll.specs.Datagram.{Datagram, canonical}
use Rattle.bvll.specs.declared.address.Address.{Address}
use Rattle.history.specs.Lists.{Has}
use Rattle.inside.specs.Inside.{AreInside, HasInside, HasNothingInside, Inside, Reaches, Said}
use Rattle.inside.specs.Routed.{IsRouted}
use Rattle.mstp_frame.specs.Frame as mstp
use Rattle.npdu.specs.Header as npdu
use Rattle.npdu.specs.Mac.{is_address}
use Rattle.npdu.specs.declared.mac.Mac.{Mac}
use Rattle.npdu.specs.declared.mac.Mac.TheVariants.{One as Octet}
use Rattle.npdu.specs.declared.message.Message.{Message}
use Rattle.npdu.specs.declared.parcel.Parcel.{Parcel}
use Rattle.profile.specs.LinkKind.{max_npdu}
use Rattle.profile.specs.declared.link_kind.LinkKind.TheVariants.{BacnetIp}
use Rattle.carry.specs.Datagrams.{carries_npdu, mac_at}
use Rattle.carry.specs.Frames.{IsFramed, carried_in, framed_to, is_data}
use Rattle.carry.specs.Passing.{IsInsideOne, PassesOn, PutsOut}
use Rattle.carry.specs.Ports.{Port, down}
use Rattle.carry.specs.Things.{AreCarried, Bears, IsCarried, SentDatagram, SentFrame, Thing, Waiting, net_of, stamp_of}

-- what is passed on of what is carried is carried
abbrev pub PassedOnIsCarried : Type 0 → Type 0
PassedOnIsCarried A = (said : List Said) (ts : List (Thing A)) (t : Thing A) → AreCarried said ts → PassesOn ts t →
    IsCarried said t

-- what puts out parcels is carried, once what is inside them is among what was said
abbrev pub PutOutIsCarried : Type 0 → Type 0
PutOutIsCarried A = (said fresh : List Said) (net : ℕ) (ps : List (Parcel A)) (t : Thing A) → AreInside net ps fresh →
    PutsOut net ps t → IsCarried (said ++ fresh) t

-- what is carried is carried still, whatever is said later
abbrev pub CarriedStill : Type 0 → Type 0
CarriedStill A = (said more : List Said) (t : Thing A) → IsCarried said t → IsCarried (said ++ more) t

-- what a thing bears has its stamp
abbrev pub StampIsBorne : Type 0 → Type 0
StampIsBorne A = (t : Thing A) (p : Parcel A) → Bears t p → p.stamp ≡ stamp_of t

-- what waits in a port puts out its parcel
abbrev pub WaitingPutsOut : Type 0 → Type 0
WaitingPutsOut A = (net : ℕ) (ps : List (Parcel A)) (p : Parcel A) → Has ps p → PutsOut net ps (Waiting net p)

-- a port of BACnet/IP puts out its parcels and nothing else, where they are short enough (J.1.3)
abbrev pub PortPutsOut : Type 0 → Type 0
PortPutsOut A = (net : ℕ) (port : Port) (ps : List (Parcel A)) (p : Parcel A) (t : Thing A) → Has ps p →
    length p.npdu ≤ max_npdu BacnetIp → Has (down net port p) t → PutsOut net ps t

-- what a datagram bears reaches the station that it is handed to (J.2)
abbrev pub DatagramReaches : Type 0 → Type 0
DatagramReaches A = (net : ℕ) (from to : Mac) (octets : List ℕ) (stamp : ℕ) (p : Parcel A) →
    Bears (SentDatagram net from to octets stamp) p → Reaches p.to to

-- any other datagram, as one that registers a foreign device, may be sent at any time (J.2)
abbrev pub OtherDatagramPassesOn : Type 0 → Type 0
OtherDatagramPassesOn A = (ts : List (Thing A)) (net stamp : ℕ) (from to : Mac) (d : Datagram) →
    carries_npdu d ≡ false → PassesOn ts (SentDatagram net from to (canonical d) stamp)

-- a frame with the NPDU of a parcel that waits, put out by a node, passes it on (9.3)
abbrev pub FramePassesOn : Type 0 → Type 0
FramePassesOn A = (ts : List (Thing A)) (net : ℕ) (p : Parcel A) (f : mstp.PlainFrame) (octets : List ℕ) →
    Has ts (Waiting net p) → mstp.Spells octets f → IsFramed p f → PassesOn ts (SentFrame net octets p.stamp)

-- any other frame, as a Token, may be sent at any time (9.3)
abbrev pub OtherFramePassesOn : Type 0 → Type 0
OtherFramePassesOn A = (ts : List (Thing A)) (net stamp : ℕ) (f : mstp.PlainFrame) (octets : List ℕ) →
    mstp.Spells octets f → is_data f.frame_type ≡ false → PassesOn ts (SentFrame net octets stamp)

-- what a frame bears reaches the nodes that it is for (9.3, 9.5)
abbrev pub FrameReaches : Type 0 → Type 0
FrameReaches A = (f : mstp.PlainFrame) (stamp node : ℕ) (p : Parcel A) → carried_in stamp f ≡ Some p →
    Reaches (framed_to f.destination) (Octet node) → Reaches p.to (Octet node)

-- what a port puts out of a parcel passes on what is inside that
abbrev pub PutOutPassesOn : Type 0 → Type 0
PutOutPassesOn A = (ts : List (Thing A)) (net : ℕ) (q : Parcel A) (t : Thing A) → PutsOut net (q ∷ []) t →
    ((i : Inside) → HasInside net q.from q.to q.npdu i → IsInsideOne ts i q.stamp) → PassesOn ts t

-- a network message may be sent at any time: nothing is inside (6.2.4)
abbrev pub NetworkMessagePassesOn : Type 0 → Type 0
NetworkMessagePassesOn A = (ts : List (Thing A)) (net : ℕ) (q : Parcel A) (h : npdu.Header) (m : Message)
    (t : Thing A) → npdu.Spells q.npdu h → h.message ≡ Some m → PutsOut net (q ∷ []) t → PassesOn ts t

-- what bears only what a router makes of a parcel that it heard, or nothing, passes that on; addresses have one octet
-- or six, networks a number (6.5.2)
abbrev pub RoutedIsPassedOn : Type 0 → Type 0
RoutedIsPassedOn A = (ts : List (Thing A)) (u t : Thing A) (p : Parcel A) → Has ts u → Bears u p →
    is_address p.from ≡ true → 0 < net_of u → net_of u < 65535 → ((q : Parcel A) → Bears t q →
    IsRouted (net_of u) (net_of t) p q ⊎ HasNothingInside (net_of t) q) → PassesOn ts t

-- what a router's port puts out of what the router makes of a parcel that it heard passes that on (6.5.2)
abbrev pub RouterPassesOn : Type 0 → Type 0
RouterPassesOn A = (ts : List (Thing A)) (u t : Thing A) (p q : Parcel A) (other : ℕ) → Has ts u → Bears u p →
    is_address p.from ≡ true → 0 < net_of u → net_of u < 65535 →
    IsRouted (net_of u) other p q ⊎ HasNothingInside other q → PutsOut other (q ∷ []) t → PassesOn ts t

-- each datagram that a manager says of one that it heard passes that on (J.4.5)
abbrev pub ManagerPassesOn : Type 0 → Type 0
ManagerPassesOn A = (ts : List (Thing A)) (net now stamp : ℕ) (from : Address) (octets : List ℕ)
    (old new : ManagerState) (out : List (Outgoing A)) (s : Outgoing A) → IsAddress from →
    Has ts (SentDatagram net (mac_at from) (mac_at old.tables.own) octets stamp) → IsHeard now from octets old new out →
    Has out s → PassesOn ts (SentDatagram net (mac_at old.tables.own) (mac_at s.to) s.octets stamp)
