-- Which message of a request a station hears, on the last network of its way.
use Rattle.std.specs.Prelude.{◌≡◌, ◌==◌, ◌||◌, ℕ, Bool, true, List, Option, Some, None}
use Rattle.bvll.specs.Datagram as bvll
use Rattle.bvll.specs.Datagram.{Datagram}
use Rattle.last_hop.specs.Parts.{part_in}
use Rattle.last_hop.specs.declared.part.HeardPart.{HeardPart}
use Rattle.mstp_frame.specs.Frame as mstp
use Rattle.mstp_frame.specs.Frame.{PlainFrame}
use Rattle.mstp_frame.specs.FrameType.{type_number}
use Rattle.mstp_frame.specs.declared.frame_type.FrameType.TheVariants.{BacnetDataExpectingReply}
use Rattle.mstp_frame.specs.declared.frame_type.FrameType.TheVariants.{BacnetDataNotExpectingReply}
use Rattle.npdu.specs.declared.mac.Mac.{Mac}
use Rattle.npdu.specs.declared.mac.Mac.TheVariants as mac
use Rattle.npdu.specs.declared.mac.Target.TheVariants as target
use Rattle.unitdata.specs.Hearing.{Brings, Heard}

-- an NPDU that was sent to a station alone on a network brings it this message of a request (6.2.2, 20.1)
pub record Hears (net : ℕ) (from to : Mac) (npdu : List ℕ) (p : HeardPart) : Type 0 where
  pub heard : Heard
  pub brings : Brings net from (target.One to) npdu heard
  pub is : part_in (record { net = net; mac = to }) heard.station heard.content ≡ Some p

-- it brings none
pub record HearsNone (net : ℕ) (from to : Mac) (npdu : List ℕ) : Type 0 where
  pub none : (p : HeardPart) → Hears net from to npdu p → ⊥

-- the NPDU to one station that a datagram is, if it is one (J.2.11)
abbrev pub npdu_in : Datagram → Option (List ℕ)
npdu_in (bvll.unicast npdu) = Some npdu
npdu_in d = None

-- a datagram to one station brings it this (J.2.11)
pub record IsInDatagram (net : ℕ) (from to : Mac) (octets : List ℕ) (p : HeardPart) : Type 0 where
  pub npdu : List ℕ
  pub spelled : bvll.Spells octets (bvll.unicast npdu)
  pub hears : Hears net from to npdu p

-- it brings none
pub record NoneInDatagram (net : ℕ) (from to : Mac) (octets : List ℕ) : Type 0 where
  pub none : (p : HeardPart) → IsInDatagram net from to octets p → ⊥

-- frames of this type carry an NPDU (9.3.6, 9.3.7)
abbrev pub carries_data : ℕ → Bool
carries_data n = (n == type_number BacnetDataExpectingReply) || (n == type_number BacnetDataNotExpectingReply)

-- a frame brings this to the node of an address (9.3)
pub record IsInFrame (net to : ℕ) (octets : List ℕ) (p : HeardPart) : Type 0 where
  pub frame : PlainFrame
  pub spelled : mstp.Spells octets frame
  pub addressed : frame.destination ≡ to
  pub carries : carries_data frame.frame_type ≡ true
  pub hears : Hears net (mac.One frame.source) (mac.One to) frame.contents p

-- it brings none there
pub record NoneInFrame (net to : ℕ) (octets : List ℕ) : Type 0 where
  pub none : (p : HeardPart) → IsInFrame net to octets p → ⊥
