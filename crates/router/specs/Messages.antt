-- What a router says of itself, and asks: network messages (6.4).
use Rattle.std.specs.Prelude.{ℕ, ◌+◌, ◌==◌, Bool, true, false, List, [], ◌∷◌, ◌++◌, Option, Some, None, option_map}
use Rattle.byteorder.specs.Endian.{big_bytes}
use Rattle.npdu.specs.Header.{Header, INITIAL_HOP_COUNT, PlainDestination, PlainSource, canonical}
use Rattle.npdu.specs.Rejected.{rejected_octets}
use Rattle.npdu.specs.declared.mac.Mac.{Mac}
use Rattle.npdu.specs.declared.mac.Station.{Station}
use Rattle.npdu.specs.declared.mac.Target.TheVariants.{One, All}
use Rattle.npdu.specs.declared.message.Message.{Message}
use Rattle.npdu.specs.declared.message.Message.TheVariants.{IAmRouterToNetwork, RejectMessageToNetwork}
use Rattle.npdu.specs.declared.message.NetworkRejectReason.{NetworkRejectReason}
use Rattle.npdu.specs.declared.parcel.Parcel.{Parcel}
use Rattle.npdu.specs.declared.priority.Priority.TheVariants.{Normal}
use Rattle.npdu.specs.declared.view.Dnet.TheVariants.{Network}
use Rattle.router.specs.Router.{RouterState}
use Rattle.router.specs.Sending.{of_others, sent, unless}
use Rattle.router.specs.declared.plan.PortParcel.{PortParcel}
use Rattle.router.specs.declared.routes.Route.{Route}

-- a message that a router hears: the moment, the port, the router there, and its parcel with the header
pub record Heard (A : Type 0) : Type 0 where
  pub moment : ℕ
  pub port : ℕ
  pub at : Station
  pub parcel : Parcel A
  pub header : Header

-- a network message of normal priority, to the network that it is said on or to a station elsewhere (6.2.4)
abbrev pub message_header : Message → Option PlainDestination → List ℕ → Header
message_header message destination contents = record {
  expects_reply = false;
  priority = Normal;
  destination = destination;
  source = None;
  message = Some message;
  body = contents;
}

-- its octets
unfoldable pub message_npdu : Message → Option PlainDestination → List ℕ → List ℕ
message_npdu message destination contents = canonical (message_header message destination contents)

-- one goes to all stations of a port's network (6.4.1, 6.4.2)
abbrev pub said_on : {A : Type 0} → (port : ℕ) → (own : Mac) → (stamp : ℕ) → Message → List ℕ → PortParcel A
said_on port own stamp message contents = sent port own All stamp (message_npdu message None contents)

-- .. of this port's network
abbrev pub said_there : {A : Type 0} → (stamp : ℕ) → Message → List ℕ → ℕ → Station → List (PortParcel A)
said_there stamp message contents port s = said_on port s.mac stamp message contents ∷ []

-- .. of the networks of all ports but that one, in order
abbrev pub said_on_others : {A : Type 0} → (stamp : ℕ) → Message → List ℕ → ℕ → List Station → List (PortParcel A)
said_on_others stamp message contents port ports = of_others (said_there stamp message contents) port ports

-- the number of a port's network, in two octets
abbrev pub net_there : ℕ → Station → List ℕ
net_there port s = big_bytes 2 s.net

-- the numbers of the networks learned over other ports than that one, in ascending order
abbrev pub learned_behind : ℕ → List (ℕ × Route) → List ℕ
learned_behind port [] = []
learned_behind port (r ∷ rs) = unless (r.1.port == port) (big_bytes 2 r.0) ++ learned_behind port rs

-- the numbers of the networks behind all ports but that one: its own in the order of its ports, then those learned
abbrev pub behind : ℕ → RouterState → List ℕ
behind port st = of_others net_there port st.ports ++ learned_behind port st.routes

-- on a port it names the networks behind its others (6.4.2)
abbrev pub named_on : {A : Type 0} → (now port : ℕ) → (own : Mac) → RouterState → PortParcel A
named_on now port own st = said_on port own now IAmRouterToNetwork (behind port st)

-- .. on each port, in order; they are numbered on from `first`
abbrev pub named_on_each : {A : Type 0} → (now first : ℕ) → List Station → RouterState → List (PortParcel A)
named_on_each now first [] st = []
named_on_each now first (s ∷ ss) st = named_on now first s.mac st ∷ named_on_each now (first + 1) ss st

-- what it says at a wake: at the first alone (6.6.2)
abbrev pub announced_if : {A : Type 0} → (woken : Bool) → ℕ → RouterState → List (PortParcel A)
announced_if true now st = []
announced_if false now st = named_on_each now 0 st.ports st

abbrev pub announced : {A : Type 0} → ℕ → RouterState → List (PortParcel A)
announced now st = announced_if st.woken now st

-- SNET and SADR of a message, as DNET and DADR of what goes back (6.4.4)
abbrev pub back_to : PlainSource → PlainDestination
back_to s = record { net = Network s.net; mac = s.mac; hops = INITIAL_HOP_COUNT }

-- its source is told why a message is not passed on: by who sent it on this port (6.4.4)
abbrev pub refused : {A : Type 0} → Heard A → NetworkRejectReason → ℕ → PortParcel A
refused m reason net = sent m.port m.at.mac (One m.parcel.from) m.moment
    (message_npdu RejectMessageToNetwork (option_map back_to m.header.source)
    (rejected_octets (record { reason = reason; net = net })))
