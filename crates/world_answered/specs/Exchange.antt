-- A request that is answered, since each item that is put out of it is delivered and its device is ready for it.
use Rattle.std.specs.Prelude.{◌≡◌, ◌≢◌, ℕ, ◌+◌, true, List, [], ◌∷◌, ◌++◌, length, Some, slice_get}
use Rattle.bindings.specs.Binding.{binding_of}
use Rattle.bindings.specs.declared.binding.Binding.{Binding}
use Rattle.carry_answered.specs.Answered.{GoInOne, IsReady}
use Rattle.history.specs.Lists.{Has}
use Rattle.history.specs.declared.Entry.TheVariants.{Answered, Executed, Issue}
use Rattle.npdu.specs.declared.mac.Mac.{Mac}
use Rattle.npdu.specs.declared.mac.Mac.TheVariants.{One, Six}
use Rattle.npdu.specs.declared.mac.Station.{Station}
use Rattle.primitives.specs.Sound.{IsSoundRequest}
use Rattle.primitives.specs.declared.plain_data.Request.{Request}
use Rattle.router.specs.Router.{RouterState}
use Rattle.simulator.specs.Laws.{IsLed}
use Rattle.traffic.specs.declared.item.Item.{Item}
use Rattle.unitdata.specs.Hearing.{way_to}
use Rattle.unitdata.specs.Saying.{is_named}
use Rattle.world.specs.Laws.{Stands}
use Rattle.world.specs.Step.{Steps, addressee_of}
use Rattle.world.specs.World.{WorldState}
use Rattle.world.specs.client.Client.{ClientState}
use Rattle.world.specs.site_events.declared.event.Event.TheVariants as event
use Rattle.world.specs.device.Device.{DeviceState}
use Rattle.world.specs.headline_bacnet.services.Asked.{replied}
use Rattle.world.specs.site_node.Node.{home_of}
use Rattle.world.specs.site_node.declared.part.Part.TheVariants.{Client, Device, Router}
use Rattle.world.specs.site_ports.Ports.{Then}

-- what may come between two events: nothing, or ticks of so many milliseconds, one behind another
abbrev pub AtOnce : {A : Type 0} → (w v : WorldState A) → Type 0
AtOnce w v = v ≡ w

abbrev pub Passes : {A : Type 0} → List ℕ → (w v : WorldState A) → Type 0
Passes [] w v = v ≡ w
Passes (n ∷ ns) w v = Then (Steps (event.Tick n) w) (λ u. Passes ns u v)

pub record Waits {A : Type 0} (w v : WorldState A) : Type 0 where
  pub ticks : List ℕ
  pub pass : Passes ticks w v

-- a client has a binding to a device: its station, and the address on the client's own network from which its I-Am came
-- (16.10.3)
pub record IsBound {A : Type 0} (instance : ℕ) (from : Mac) (c : ClientState A) (d : DeviceState A) : Type 0 where
  pub binding : Binding
  pub held : binding_of instance c.bindings ≡ Some binding
  pub station : binding.bound.station ≡ home_of (Device d)
  pub way : binding.bound.way ≡ way_to c.net from (home_of (Device d))

-- the client of a name issues a request to a device that it is bound to; it and its answer go in one APDU each (5.2.1)
pub record Asks {A : Type 0} (name : List ℕ) (instance : ℕ) (request : Request A) (from : Mac) (d : DeviceState A)
    (w v : WorldState A) : Type 0 where
  pub issues : Steps (event.Issue name instance request) w v
  pub sound : IsSoundRequest request
  pub c : ClientState A
  pub client : issues.holds.n.part ≡ Client c
  pub bound : IsBound instance from c d
  pub whole : GoInOne c bound.binding d request

-- a station is on a network of BACnet/IP, where an address has six octets (Table 6-2)
abbrev pub IsOnIp : Mac → Type 0
IsOnIp (Six octets) = Unit {0}
IsOnIp (One octet) = ⊥

-- an event put out one item, which is for this station (J.2)
pub record PutsOut {A : Type 0} (x : Station) (w v : WorldState A) : Type 0 where
  pub item : Item A
  pub first : slice_get v.items (length w.items) ≡ Some item
  pub last : length v.items ≡ length w.items + 1
  pub for : addressee_of item ≡ x

module _ {A : Type 0} (Between : (w v : WorldState A) → Type 0) where
  -- the item of a number is delivered, where no more than this came between
  pub record Comes (number : ℕ) (w v : WorldState A) : Type 0 where
    pub then : WorldState A
    pub between : Between w then
    pub delivers : Steps (event.Deliver number) then v

  -- .. to a device, which is past its quiet time and has a place for an answer (5.4.5.1)
  pub record Serves (number : ℕ) (d : DeviceState A) (w v : WorldState A) : Type 0 where
    pub comes : Comes number w v
    pub device : comes.delivers.n.part ≡ Device d
    pub ready : IsReady comes.then.moment d

  -- .. to a router that has a port on this network (6.6.1)
  pub record Routes (number net : ℕ) (w v : WorldState A) : Type 0 where
    pub comes : Comes number w v
    pub r : RouterState
    pub router : comes.delivers.n.part ≡ Router r
    pub port : Station
    pub there : Has r.ports port
    pub on : port.net ≡ net

  -- .. to the node at this place
  pub record Returns (number place : ℕ) (w v : WorldState A) : Type 0 where
    pub comes : Comes number w v
    pub back : comes.delivers.place ≡ place

  -- three events over one network of BACnet/IP: what the client puts out comes to the device, and what this puts out
  -- to the client. The first item that an event puts out has as its number how many there were
  pub record Exchange (w v : WorldState A) : Type 0 where
    pub name : List ℕ
    pub instance : ℕ
    pub request : Request A
    pub d : DeviceState A
    pub asked : WorldState A
    pub asks : Asks name instance request d.mac d w asked
    pub served : WorldState A
    pub serves : Serves (length w.items) d asked served
    pub returns : Returns (length asked.items) asks.issues.place served v

  -- five over a router between two networks of BACnet/IP: both come to a router first, which passes them on (6.5)
  pub record RoutedExchange (w v : WorldState A) : Type 0 where
    pub name : List ℕ
    pub instance : ℕ
    pub request : Request A
    pub router : Mac
    pub d : DeviceState A
    pub asked : WorldState A
    pub asks : Asks name instance request router d w asked
    pub two : asks.c.net ≢ d.net
    pub passed : WorldState A
    pub passes : Routes (length w.items) d.net asked passed
    pub served : WorldState A
    pub serves : Serves (length asked.items) d passed served
    pub answered : WorldState A
    pub answers : Routes (length passed.items) asks.c.net served answered
    pub returns : Returns (length served.items) asks.issues.place answered v

-- the request was executed and answered, at these moments and once each, with the reply that the objects of the device
-- give to it (15)
abbrev pub IsAnswered : {A : Type 0} → (w v : WorldState A) → ClientState A → (instance : ℕ) → Request A →
    DeviceState A → (executed answered : ℕ) → Type 0
IsAnswered w v c instance request d executed answered = v.history ≡ w.history ++
    (Issue (length w.keys) (home_of (Client c)) instance request w.moment ∷
    Executed (length w.keys) (replied d.server.table request) executed ∷
    Answered (length w.keys) (replied d.server.table request) answered ∷ [])

-- so is each, whatever events came before (5.4.4, 5.4.5)
abbrev pub AnsweredAtOnce : Type 0 → Type 0
AnsweredAtOnce A = (w v : WorldState A) → Stands w → IsLed w → (e : Exchange AtOnce w v) →
    IsAnswered w v e.asks.c e.instance e.request e.d w.moment w.moment

abbrev pub AnsweredLater : Type 0 → Type 0
AnsweredLater A = (w v : WorldState A) → Stands w → IsLed w → (e : Exchange Waits w v) →
    IsAnswered w v e.asks.c e.instance e.request e.d e.served.moment v.moment

-- .. over a router (6.5)
abbrev pub RoutedAtOnce : Type 0 → Type 0
RoutedAtOnce A = (w v : WorldState A) → Stands w → IsLed w → (e : RoutedExchange AtOnce w v) →
    IsAnswered w v e.asks.c e.instance e.request e.d w.moment w.moment

abbrev pub RoutedLater : Type 0 → Type 0
RoutedLater A = (w v : WorldState A) → Stands w → IsLed w → (e : RoutedExchange Waits w v) →
    IsAnswered w v e.asks.c e.instance e.request e.d e.served.moment v.moment

-- none is silent: an issue to a device of the client's own network of BACnet/IP puts out one item, for that device
-- (5.4.4.1)
abbrev pub IssuesPutOut : Type 0 → Type 0
IssuesPutOut A = (name : List ℕ) (instance : ℕ) (request : Request A) (d : DeviceState A) (w v : WorldState A) →
    Stands w → (asks : Asks name instance request d.mac d w v) → asks.c.net ≡ d.net → IsOnIp asks.c.mac →
    IsOnIp d.mac → PutsOut (home_of (Device d)) w v

-- .. and one to a device behind a router, which DNET and DADR can name, one item for that router (6.2.2)
abbrev pub RoutedIssuesPutOut : Type 0 → Type 0
RoutedIssuesPutOut A = (name : List ℕ) (instance : ℕ) (request : Request A) (router : Mac) (d : DeviceState A)
    (w v : WorldState A) → Stands w → (asks : Asks name instance request router d w v) → asks.c.net ≢ d.net →
    is_named (home_of (Device d)) ≡ true → IsOnIp asks.c.mac → IsOnIp router →
    PutsOut (record { net = asks.c.net; mac = router }) w v

-- a device that serves such an issue puts out one item, for that client (5.4.5.3)
abbrev pub AnswersPutOut : Type 0 → Type 0
AnswersPutOut A = (name : List ℕ) (instance : ℕ) (request : Request A) (d : DeviceState A) (w asked v : WorldState A) →
    Stands w → IsLed w → (asks : Asks name instance request d.mac d w asked) →
    Serves Waits (length w.items) d asked v → PutsOut (home_of (Client asks.c)) asked v

-- .. or, where the issue came over a router, for that router (6.5)
abbrev pub RoutedAnswersPutOut : Type 0 → Type 0
RoutedAnswersPutOut A = (name : List ℕ) (instance : ℕ) (request : Request A) (router : Mac) (d : DeviceState A)
    (w asked passed v : WorldState A) → Stands w → IsLed w → (asks : Asks name instance request router d w asked) →
    asks.c.net ≢ d.net → Routes Waits (length w.items) d.net asked passed →
    (serves : Serves Waits (length asked.items) d passed v) →
    PutsOut (record { net = d.net; mac = serves.comes.delivers.item.from }) passed v

-- a router is on a network by ports of BACnet/IP alone (J.1)
pub record IsByIp (net : ℕ) (r : RouterState) : Type 0 where
  pub only : (port : Station) → Has r.ports port → port.net ≡ net → IsOnIp port.mac

-- such a router puts out one item of an issue that it hears, for that device (6.5)
abbrev pub RoutersPutOut : Type 0 → Type 0
RoutersPutOut A = (name : List ℕ) (instance : ℕ) (request : Request A) (router : Mac) (d : DeviceState A)
    (w asked v : WorldState A) → Stands w → (asks : Asks name instance request router d w asked) →
    asks.c.net ≢ d.net → (routes : Routes Waits (length w.items) d.net asked v) → IsByIp d.net routes.r →
    IsOnIp d.mac → PutsOut (home_of (Device d)) asked v
