-- All that a router says to a message, in order, and the routes that it knows behind it (6.5, 6.6.3).
use Rattle.std.specs.Prelude.{ℕ, Bool, false, List, [], ◌∷◌, ◌++◌}
use Rattle.byteorder.specs.Endian.{big_bytes}
use Rattle.npdu.specs.declared.mac.Target.TheVariants.{One}
use Rattle.npdu.specs.declared.message.Message.TheVariants.{WhoIsRouterToNetwork, IAmRouterToNetwork}
use Rattle.npdu.specs.declared.message.NetworkRejectReason.TheVariants.{NoRoute, UnknownMessageType}
use Rattle.router.specs.Messages.{Heard, named_on, refused, said_on, said_on_others}
use Rattle.router.specs.Passing.{last_of, passed, spread_there, way_of}
use Rattle.router.specs.Router.{RouterState}
use Rattle.router.specs.Routes.{is_overfull, learned}
use Rattle.router.specs.Sending.{of_others}
use Rattle.router.specs.declared.handling.Handling.{Handling}
use Rattle.router.specs.declared.handling.Handling.TheVariants as does
use Rattle.router.specs.declared.plan.PortParcel.{PortParcel}
use Rattle.router.specs.declared.routes.Route.{Route}

-- what goes out, by what is done with the message. What is passed on has the stamp of what was heard, a question and an
-- announcement too; what the router says of itself has this moment
abbrev pub said : {A : Type 0} → Heard A → RouterState → Handling → List (PortParcel A)
said m st does.Discard = []
said m st does.Spread = of_others (spread_there m) m.port st.ports
said m st (does.Relay port own next) = passed m (way_of m) port own (One next) ∷ []
said m st (does.Deliver port own to) = passed m (last_of m) port own to ∷ []
said m st (does.FindRoute net) =
    said_on_others m.moment WhoIsRouterToNetwork (big_bytes 2 net) m.port st.ports ++ (refused m NoRoute net ∷ [])
said m st does.NameAll = named_on m.moment m.port m.at.mac st ∷ []
said m st does.NameAsked = said_on m.port m.at.mac m.moment IAmRouterToNetwork m.header.body ∷ []
said m st does.AskOthers = said_on_others m.parcel.stamp WhoIsRouterToNetwork m.header.body m.port st.ports
said m st does.Learn = said_on_others m.parcel.stamp IAmRouterToNetwork m.header.body m.port st.ports
said m st does.RefuseType = refused m UnknownMessageType m.at.net ∷ []

-- the route that an announcement teaches: over the port heard, to the router that made it (6.6.3.3)
abbrev pub route_back : {A : Type 0} → Heard A → Route
route_back m = record { port = m.port; next = m.parcel.from }

-- the routes behind a message: an announcement alone teaches
abbrev pub routes_left : {A : Type 0} → Heard A → RouterState → Handling → List (ℕ × Route)
routes_left m st does.Learn = learned st.ports (route_back m) m.header.body st.routes
routes_left m st handling = st.routes

-- it would teach more routes than a router knows
abbrev pub teaches_too_many : {A : Type 0} → Heard A → RouterState → Handling → Bool
teaches_too_many m st does.Learn = is_overfull st.ports (route_back m) m.header.body st.routes
teaches_too_many m st handling = false

-- what the router knows behind it
abbrev pub left : {A : Type 0} → Heard A → RouterState → Handling → RouterState
left m st handling = record st { routes = routes_left m st handling; moment = m.moment }
