-- What an NPDU brings to a station of a network (5.1, 6.2, 6.5.2).
use Rattle.std.specs.Prelude.{◌≡◌, ℕ, Bool, true, false, List, Option, Some, None, is_none}
use Rattle.apdu.specs.Apdu.{PlainApdu}
use Rattle.apdu.specs.Apdu as application
use Rattle.npdu.specs.Header.{Header, PlainDestination}
use Rattle.npdu.specs.Header as network
use Rattle.npdu.specs.Mac.{same_station}
use Rattle.npdu.specs.Sender.{sender}
use Rattle.npdu.specs.Rejected.{SpellsRejected}
use Rattle.npdu.specs.declared.mac.Mac.{Mac}
use Rattle.npdu.specs.declared.mac.Station.{Station}
use Rattle.npdu.specs.declared.mac.Target.{Target}
use Rattle.npdu.specs.declared.mac.Way.{Way}
use Rattle.npdu.specs.declared.message.Message.{Message}
use Rattle.npdu.specs.declared.message.Message.TheVariants.{RejectMessageToNetwork}
use Rattle.npdu.specs.declared.rejected.Rejected.{Rejected}
use Rattle.npdu.specs.declared.view.Dnet.{Dnet}
use Rattle.npdu.specs.declared.view.Dnet.TheVariants.{Network, Global}
use Rattle.npdu.specs.declared.mac.Target.TheVariants.{One, All}

-- whether DNET is the global broadcast (6.2.2)
abbrev pub is_global : Dnet → Bool
is_global Global = true
is_global (Network number) = false

-- a destination that is a station of the network where it is heard, or all: none, or the global broadcast (6.2.2)
abbrev pub is_here : Option PlainDestination → Bool
is_here None = true
is_here (Some d) = is_global d.net

-- a message came to this station alone: not by a broadcast on the link, and without DNET (6.2.2)
abbrev pub is_alone : Target → Option PlainDestination → Bool
is_alone (One mac) destination = is_none destination
is_alone All destination = false

-- a station is named by DNET and DADR, unless it is on this network where the message came from
abbrev pub destination_if : Bool → Station → Option Station
destination_if true s = None
destination_if false s = Some s

-- how an answer goes to a station whose message came from an address on this network (6.5.2)
abbrev pub way_to : ℕ → Mac → Station → Way
way_to net from s =
    record { to = from; destination = destination_if (same_station s (record { net = net; mac = from })) s }

-- an APDU, or that a message was not passed on
pub data HeardContent : Type 0 where
  says : PlainApdu → HeardContent
  refuses : Rejected → HeardContent

-- what stands behind a header says this: an APDU, or the contents of a Reject-Message-To-Network (6.2.4, 6.4.4, 20.1)
abbrev pub SpellsContent : Option Message → List ℕ → HeardContent → Type 0
SpellsContent None octets (says apdu) = application.Spells octets apdu
SpellsContent (Some RejectMessageToNetwork) octets (refuses rejected) = SpellsRejected octets rejected
SpellsContent message octets content = ⊥

-- what stands behind a header says nothing that a station's application hears
pub record NoContent (message : Option Message) (octets : List ℕ) : Type 0 where
  pub none : (x : HeardContent) → SpellsContent message octets x → ⊥

-- who says a thing, how an answer goes there, and whether it came to this station alone
pub record Heard : Type 0 where
  pub station : Station
  pub way : Way
  pub alone : Bool
  pub content : HeardContent

-- an NPDU that was sent from an address to a target brings this to a station of that network
pub record Brings (net : ℕ) (from : Mac) (to : Target) (npdu : List ℕ) (h : Heard) : Type 0 where
  pub header : Header
  pub spelled : network.Spells npdu header
  pub here : is_here header.destination ≡ true
  pub sent : sender net from header.source ≡ Some h.station
  pub way : h.way ≡ way_to net from h.station
  pub alone : h.alone ≡ is_alone to header.destination
  pub said : SpellsContent header.message header.body h.content

-- such an NPDU brings nothing there
pub record BringsNothing (net : ℕ) (from : Mac) (to : Target) (npdu : List ℕ) : Type 0 where
  pub none : (h : Heard) → Brings net from to npdu h → ⊥

-- such an NPDU brings something there: it isn't dropped for its header or its destination
pub record BringsSomething (net : ℕ) (from : Mac) (to : Target) (npdu : List ℕ) : Type 0 where
  pub heard : Heard
  pub brings : Brings net from to npdu heard
