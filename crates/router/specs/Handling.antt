-- What a router does with a message, by its header (6.5, 6.6.3).
use Rattle.std.specs.Prelude.{ℕ, ◌+◌, ◌%◌, ◌==◌, not, nat_le, nat_lt, cond, Bool, true, false, List, [], ◌∷◌, length}
use Rattle.std.specs.Prelude.{Option, Some, None, slice_get}
use Rattle.std.specs.BTreeMap.{is_at}
use Rattle.std.specs.Map.{lookup}
use Rattle.std.specs.Ordering.{nat_cmp}
use Rattle.byteorder.specs.Endian.{big_number}
use Rattle.npdu.specs.Header.{Header, PlainDestination}
use Rattle.npdu.specs.declared.mac.Mac.{Mac}
use Rattle.npdu.specs.declared.mac.Mac.TheVariants as kind
use Rattle.npdu.specs.declared.mac.Station.{Station}
use Rattle.npdu.specs.declared.mac.Target.{Target}
use Rattle.npdu.specs.declared.mac.Target.TheVariants as target
use Rattle.npdu.specs.declared.message.Message.{Message}
use Rattle.npdu.specs.declared.message.Message.TheVariants as message
use Rattle.npdu.specs.declared.view.Dnet.{Dnet}
use Rattle.npdu.specs.declared.view.Dnet.TheVariants as dnet
use Rattle.inside.specs.Routed.{target_of}
use Rattle.router.specs.Router.{RouterState}
use Rattle.router.specs.declared.handling.Handling.{Handling}
use Rattle.router.specs.declared.handling.Handling.TheVariants as does
use Rattle.router.specs.declared.routes.Route.{Route}

-- the first port on a network, and the router's address there; ports are numbered on from `first`
abbrev pub own_port_from : (first net : ℕ) → List Station → Option (ℕ × Mac)
own_port_from first net [] = None
own_port_from first net (s ∷ ss) = cond (s.net == net) (Some (first, s.mac)) (own_port_from (first + 1) net ss)

abbrev pub own_port : ℕ → List Station → Option (ℕ × Mac)
own_port net ports = own_port_from 0 net ports

-- the learned route to a network (6.6.1)
abbrev pub route_to : ℕ → List (ℕ × Route) → Option Route
route_to net routes = lookup (is_at (nat_cmp net)) routes

-- an address is one on a network where the router has this: six octets on BACnet/IP, on MS/TP one of 0 to 127, that of
-- a master node (Table 6-2, 9.2.3)
abbrev pub is_like : (own mac : Mac) → Bool
is_like (kind.Six own) (kind.Six octets) = true
is_like (kind.One own) (kind.One octet) = nat_lt octet 128
is_like own mac = false

-- .. a target: all are on each network
abbrev pub is_on : (own : Mac) → Target → Bool
is_on own target.All = true
is_on own (target.One mac) = is_like own mac

-- on its last network a message goes to whom DADR names there; one for an address of another kind is dropped
abbrev pub delivered : (port : ℕ) → (own : Mac) → Option Target → Handling
delivered port own None = does.Discard
delivered port own (Some to) = cond (is_on own to) (does.Deliver port own to) does.Discard

-- by a route it goes to the next router, over a port that there is
abbrev pub relayed : Route → Option Station → Handling
relayed route None = does.Discard
relayed route (Some s) = does.Relay route.port s.mac route.next

-- for a network that is no own one it goes by the learned route; without one that is looked for (6.6.3.1)
abbrev pub by_route : RouterState → ℕ → Option Route → Handling
by_route st net None = does.FindRoute net
by_route st net (Some route) = relayed route (slice_get st.ports route.port)

-- for an own network it has come to the last one
abbrev pub by_port : RouterState → ℕ → List ℕ → Option (ℕ × Mac) → Handling
by_port st net address None = by_route st net (route_to net st.routes)
by_port st net address (Some p) = delivered p.0 p.1 (target_of address)

-- to a network, or to all of them: the global broadcast goes to all other ports, whatever stands in DADR (6.3.2)
abbrev pub by_net : RouterState → Dnet → List ℕ → Handling
by_net st dnet.Global address = does.Spread
by_net st (dnet.Network net) address = by_port st net address (own_port net st.ports)

-- a message that may cross no further network is dropped, before anything else is looked at (6.2.3)
abbrev pub forwarding : RouterState → PlainDestination → Handling
forwarding st d = cond (nat_le d.hops 1) does.Discard (by_net st d.net d.mac)

-- a learned route goes over another port than this one
abbrev pub is_elsewhere : ℕ → Option Route → Bool
is_elsewhere port None = false
is_elsewhere port (Some route) = not (route.port == port)

-- a network is reached over another port than this one: an own network, or by a learned route
abbrev pub is_behind : ℕ → Option (ℕ × Mac) → Option Route → Bool
is_behind port None route = is_elsewhere port route
is_behind port (Some p) route = not (p.0 == port)

abbrev pub reaches : RouterState → ℕ → ℕ → Bool
reaches st port net = is_behind port (own_port net st.ports) (route_to net st.routes)

-- who has a route: to all networks without a number, to one by two octets; all else is dropped (6.6.3.2)
abbrev pub asking : RouterState → ℕ → List ℕ → Handling
asking st port [] = does.NameAll
asking st port (a ∷ []) = does.Discard
asking st port (high ∷ low ∷ []) = cond (reaches st port (big_number 2 (high ∷ low ∷ []))) does.NameAsked does.AskOthers
asking st port (a ∷ b ∷ c ∷ rest) = does.Discard

-- who has routes: each network's number has two octets (6.6.3.3)
abbrev pub announcing : List ℕ → Handling
announcing contents = cond (length contents % 2 == 0) does.Learn does.Discard

-- a type that is not known is refused where it came to this router alone (6.4.4)
abbrev pub unknown : Target → Handling
unknown (target.One mac) = does.RefuseType
unknown target.All = does.Discard

-- network messages for the router itself (6.6.3.2 to 6.6.3.5)
abbrev pub answering : RouterState → ℕ → Target → Message → List ℕ → Handling
answering st port to message.WhoIsRouterToNetwork contents = asking st port contents
answering st port to message.IAmRouterToNetwork contents = announcing contents
answering st port to message.RejectMessageToNetwork contents = does.Discard
answering st port to (message.Other number) contents = unknown to
answering st port to (message.Proprietary number vendor) contents = unknown to

-- with DNET it is for another network or for all, whatever stands behind; without it a network message is for the
-- router, and an APDU for nobody here (6.5)
abbrev pub handled : RouterState → ℕ → Target → Option PlainDestination → Option Message → List ℕ → Handling
handled st port to (Some d) message contents = forwarding st d
handled st port to None (Some message) contents = answering st port to message contents
handled st port to None None contents = does.Discard

-- what is done with a message that comes on a port, to a target on its network
abbrev pub handling : RouterState → ℕ → Target → Header → Handling
handling st port to h = handled st port to h.destination h.message h.body
