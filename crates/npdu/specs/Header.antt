-- The header of every message of the network layer (6.2): what it says, which headers there are, and the octets that
-- spell them.
use Rattle.std.specs.Prelude.{◌≡◌, ℕ, ◌+◌, ◌*◌, ◌/◌, ◌%◌, ◌<◌, ◌==◌, Bool, List, [], ◌∷◌, ◌++◌, length, Option, Some}
use Rattle.std.specs.Prelude.{None, is_some, option_map, IfSome}
use Rattle.byteorder.specs.Endian.{big_bytes}
use Rattle.tags.specs.Number.{bit}
use Rattle.npdu.specs.Dnet.{dnet_number, IsDnet}
use Rattle.npdu.specs.Message.{type_octets, IsMessage}
use Rattle.npdu.specs.Priority.{priority_number}
use Rattle.npdu.specs.declared.message.Message.{Message}
use Rattle.npdu.specs.declared.priority.Priority.{Priority}
use Rattle.npdu.specs.declared.view.Destination.{Destination}
use Rattle.npdu.specs.declared.view.Dnet.{Dnet}
use Rattle.npdu.specs.declared.view.Source.{Source}
use Rattle.npdu.specs.declared.view.View.{View}

-- the hop count of a message where it sets out (6.2.3)
abbrev pub INITIAL_HOP_COUNT : ℕ
INITIAL_HOP_COUNT = 255

-- DNET, DADR and hop count (6.2.2)
pub record PlainDestination : Type 0 where
  pub net : Dnet
  pub mac : List ℕ
  pub hops : ℕ

-- SNET and SADR (6.2.2)
pub record PlainSource : Type 0 where
  pub net : ℕ
  pub mac : List ℕ

-- what a header says, wherever its octets lie in memory (6.2)
pub record Header : Type 0 where
  pub expects_reply : Bool
  pub priority : Priority
  pub destination : Option PlainDestination
  pub source : Option PlainSource
  pub message : Option Message
  pub body : List ℕ

-- what the code's destination says
abbrev pub destination_of : Destination → PlainDestination
destination_of d = record { net = d.net; mac = d.mac.now; hops = d.hops }

-- what the code's source says
abbrev pub source_of : Source → PlainSource
source_of s = record { net = s.net; mac = s.mac.now }

-- what the code's view of a header says
abbrev pub header_of : View → Header
header_of v = record {
  expects_reply = v.expects_reply;
  priority = v.priority;
  destination = option_map destination_of v.destination;
  source = option_map source_of v.source;
  message = v.message;
  body = v.body.now;
}

-- an address of no octet is a broadcast on the network (6.2.2)
abbrev pub IsDestination : PlainDestination → Type 0
IsDestination d = IsDnet d.net × (length d.mac < 256) × (d.hops < 256)

-- a source is one station: its network is no broadcast, and its address has an octet (6.2.2)
abbrev pub IsSource : PlainSource → Type 0
IsSource s = (0 < s.net) × (s.net < 65535) × (0 < length s.mac) × (length s.mac < 256)

-- the headers that have a spelling: every field within its range (6.2.2, 6.2.4)
pub record IsSound (h : Header) : Type 0 where
  pub destination : IfSome h.destination IsDestination
  pub source : IfSome h.source IsSource
  pub message : IfSome h.message IsMessage

-- DNET, DLEN and DADR
abbrev pub dnet_octets : Option PlainDestination → List ℕ
dnet_octets None = []
dnet_octets (Some d) = big_bytes 2 (dnet_number d.net) ++ (length d.mac ∷ d.mac)

-- SNET, SLEN and SADR
abbrev pub snet_octets : Option PlainSource → List ℕ
snet_octets None = []
snet_octets (Some s) = big_bytes 2 s.net ++ (length s.mac ∷ s.mac)

-- the hop count stands where there is a destination
abbrev pub hop_octets : Option PlainDestination → List ℕ
hop_octets None = []
hop_octets (Some d) = d.hops ∷ []

-- the message type, and the vendor where it is a vendor's own (6.2.4)
abbrev pub message_octets : Option Message → List ℕ
message_octets None = []
message_octets (Some message) = type_octets message

-- what stands behind the control octet, in this order (6.2)
abbrev pub fields : Header → List ℕ
fields h = dnet_octets h.destination ++ (snet_octets h.source ++
    (hop_octets h.destination ++ (message_octets h.message ++ h.body)))

-- the control octet: bits 7, 5 and 3 announce fields; bits 6 and 4 are not looked at (6.2.2)
pub record IsControl (control : ℕ) (h : Header) : Type 0 where
  pub fits : control < 256
  pub message : (control / 128 % 2 == 1) ≡ is_some h.message
  pub destination : (control / 32 % 2 == 1) ≡ is_some h.destination
  pub source : (control / 8 % 2 == 1) ≡ is_some h.source
  pub reply : (control / 4 % 2 == 1) ≡ h.expects_reply
  pub priority : control % 4 ≡ priority_number h.priority

-- octets spell a header: version 1, a control octet, and the fields that it announces (6.2)
pub record Spells (octets : List ℕ) (h : Header) : Type 0 where
  pub sound : IsSound h
  pub control : ℕ
  pub bits : IsControl control h
  pub parts : octets ≡ 1 ∷ (control ∷ fields h)

-- octets that spell no other header
pub record OnlyHeader (octets : List ℕ) (h : Header) : Type 0 where
  pub only : (k : Header) → Spells octets k → h ≡ k

-- octets that spell no header
pub record NoHeader (octets : List ℕ) : Type 0 where
  pub none : (h : Header) → Spells octets h → ⊥

-- the control octet with bits 6 and 4 clear (6.2.2)
abbrev pub control_of : Header → ℕ
control_of h = 128 * bit (is_some h.message) + 32 * bit (is_some h.destination) + 8 * bit (is_some h.source) +
    4 * bit h.expects_reply + priority_number h.priority

-- the octets that spell it with control bits 6 and 4 clear (6.2)
abbrev pub canonical : Header → List ℕ
canonical h = 1 ∷ (control_of h ∷ fields h)
