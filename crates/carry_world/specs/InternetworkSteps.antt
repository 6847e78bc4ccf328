-- What can happen in an internetwork: one station makes a step, or something is passed on.
use Rattle.carry_said.specs.headline_site.headline_bacnet.Stations.{longest_of}
use Rattle.std.specs.Prelude.{◌≡◌, ◌⊎◌, ℕ, List, [], ◌∷◌, Option, Some, None, slice_get}
use Rattle.apdu.specs.declared.unconfirmed.Limits.{Limits}
use Rattle.carry.specs.Passing.{PassesOn}
use Rattle.carry.specs.Things.{Thing}
use Rattle.carry_said.specs.client.Client.{ClientState}
use Rattle.carry_said.specs.client.Hearing.{ClientHears}
use Rattle.carry_said.specs.client.Saying.{parcels_of, who_is_parcel}
use Rattle.carry_said.specs.client.ClientTold as client
use Rattle.bindings.specs.Binding.{binding_of}
use Rattle.bindings.specs.declared.binding.Binding.{Binding}
use Rattle.carry_said.specs.client_tsm.Issuing.{issued}
use Rattle.carry_said.specs.client_tsm.Waking as client_waking
use Rattle.carry_said.specs.client_tsm.declared.said.ClientSaid.{ClientSaid}
use Rattle.carry_said.specs.device.Device.{DeviceState}
use Rattle.carry_said.specs.device.Hearing.{DeviceHears}
use Rattle.carry_said.specs.device.DeviceTold as device
use Rattle.history.specs.Lists.{Has}
use Rattle.npdu.specs.declared.mac.Station.{Station}
use Rattle.npdu.specs.declared.parcel.Parcel.{Parcel}
use Rattle.carry_said.specs.headline_site.headline_bacnet.Refined.{ObjectSite}
use Rattle.primitives.specs.declared.plain_data.Request.{Request}
use Rattle.carry_said.specs.server_tsm.Waking as server_waking
use Rattle.carry_said.specs.headline_site.Fair.{IsFair}
use Rattle.carry_said.specs.headline_site.AllStations.{Announces, Asks_who, Client_hears, Client_learns, Client_marks}
use Rattle.carry_said.specs.headline_site.AllStations.{Client_wakes, Device_hears, Device_wakes, Event, Issues, Passes}
use Rattle.carry_said.specs.headline_site.AllStations.{Restarts, AllStations, deed_by, device_does, now, step}
use Rattle.carry_said.specs.headline_site.AllStations.{with_client}
use Rattle.carry_said.specs.headline_site.headline_client.Heard.{said_in}
use Rattle.carry_said.specs.headline_site.headline_client.Safe.{safe_client, station_of}
use Rattle.carry_said.specs.headline_site.headline_client.Told.{acts}
use Rattle.carry_said.specs.headline_site.headline_device.Devices.{Deed, announces, deed_in, told_of_deed}
use Rattle.carry_world.specs.Internetwork.{Adds, Internetwork, IsDelivered}

-- a device hears a parcel that reaches it within LIFE_MS, and does what its contract says (5.4.5, 16.10.2)
pub record DeviceStep {A : Type 0} (n v : Internetwork A) : Type 0 where
  pub place : ℕ
  pub d : DeviceState A
  pub left : DeviceState A
  pub p : Parcel A
  pub told : device.DeviceTold A
  pub there : slice_get n.world.devices place ≡ Some d
  pub delivered : IsDelivered n d.net d.mac p
  pub hears : DeviceHears (now n.world) p.from p.to p.npdu d told left
  pub world : v.world ≡ device_does place (deed_in (now n.world) p.from p.to p.npdu d told left hears) d n.world
  pub adds : Adds n v d.net told.said

-- a client hears one, and does what its contract says (5.4.4, 16.10.3)
pub record ClientStep {A : Type 0} (n v : Internetwork A) : Type 0 where
  pub place : ℕ
  pub c : ClientState A
  pub next : ClientState A
  pub p : Parcel A
  pub told : client.ClientTold A
  pub there : slice_get n.world.clients place ≡ Some c
  pub delivered : IsDelivered n c.net c.mac p
  pub hears : ClientHears (now n.world) p.from p.to p.npdu c told next
  pub world : v.world ≡ with_client place next
      (acts longest_of (station_of c) (said_in (now n.world) p.from p.to p.npdu c told next hears) told.outcomes
      (safe_client longest_of next) n.world.core) n.world
  pub adds : Adds n v c.net told.said

-- these are the parcels of what a client at a place says, on its network
pub record IsOfClient {A : Type 0} (w : AllStations A) (place : ℕ) (says : ClientState A → List (ClientSaid A))
    (net : ℕ) (ps : List (Parcel A)) : Type 0 where
  pub c : ClientState A
  pub there : slice_get w.clients place ≡ Some c
  pub on : net ≡ c.net
  pub are : ps ≡ parcels_of (now w) c.mac (says c)

-- these are the parcels of a Who-Is of a client at a place (16.10.1)
pub record IsWhoIs {A : Type 0} (w : AllStations A) (place net : ℕ) (ps : List (Parcel A)) : Type 0 where
  pub c : ClientState A
  pub limits : Option Limits
  pub there : slice_get w.clients place ≡ Some c
  pub on : net ≡ c.net
  pub are : ps ≡ who_is_parcel (now w) c.mac limits ∷ []

-- these are the parcels of what a device at a place does
pub record IsOfDevice {A : Type 0} (w : AllStations A) (place : ℕ) (deed : DeviceState A → Deed A) (net : ℕ)
    (ps : List (Parcel A)) : Type 0 where
  pub d : DeviceState A
  pub there : slice_get w.devices place ≡ Some d
  pub on : net ≡ d.net
  pub are : ps ≡ (told_of_deed (now w) d (deed d)).said

-- what is said at an issue to where a device is bound
abbrev pub issue_says : {A : Type 0} → ℕ → Request A → Option Binding → ClientState A → List (ClientSaid A)
issue_says now request None c = []
issue_says now request (Some b) c = (issued now request b.bound c.machine).said

-- an event of a station that hears nothing says these parcels on this network
abbrev pub SaysParcels : {A : Type 0} → AllStations A → Event A → ℕ → List (Parcel A) → Type 0
SaysParcels w (Passes n) net ps = ps ≡ []
SaysParcels w (Issues place instance request) net ps =
    IsOfClient w place (λ c. issue_says (now w) request (binding_of instance c.bindings) c) net ps
SaysParcels w (Asks_who place) net ps = IsWhoIs w place net ps
SaysParcels w (Client_wakes place) net ps =
    IsOfClient w place (λ c. (client_waking.woken (now w) c.machine.open_ones).said) net ps
SaysParcels w (Announces place) net ps = IsOfDevice w place (λ d. announces) net ps
SaysParcels w (Device_wakes place) net ps =
    IsOfDevice w place (λ d. deed_by (now w) (server_waking.woken (now w) d.server.records) d) net ps
SaysParcels w (Restarts place) net ps = ps ≡ []
SaysParcels w (Client_hears place m apdu found) net ps = ⊥
SaysParcels w (Client_learns place m way i) net ps = ⊥
SaysParcels w (Client_marks place reason other) net ps = ⊥
SaysParcels w (Device_hears place m way by_broadcast apdu found) net ps = ⊥

-- a station issues, asks, wakes or restarts, or time passes
pub record OwnStep {A : Type 0} (s : ObjectSite A) (n v : Internetwork A) : Type 0 where
  pub event : Event A
  pub net : ℕ
  pub ps : List (Parcel A)
  pub fair : IsFair longest_of n.world event
  pub says : SaysParcels n.world event net ps
  pub world : v.world ≡ step longest_of s n.world event
  pub adds : Adds n v net ps

-- a router, a broadcast manager, a node or a port passes something on
pub record PassingStep {A : Type 0} (n v : Internetwork A) : Type 0 where
  pub world : v.world ≡ n.world
  pub said : v.said ≡ n.said
  pub grows : (t : Thing A) → Has v.things t → Has n.things t ⊎ PassesOn n.things t

-- what can happen
pub data Step {A : Type 0} (s : ObjectSite A) (n v : Internetwork A) : Type 0 where
  device_hears : DeviceStep n v → Step s n v
  client_hears : ClientStep n v → Step s n v
  acts_itself : OwnStep s n v → Step s n v
  passes_on : PassingStep n v → Step s n v

-- each comes of the one before
abbrev pub AreSteps : {A : Type 0} → ObjectSite A → List (Internetwork A) →
    Internetwork A → Type 0
AreSteps s [] n = Unit {0}
AreSteps s (v ∷ vs) n = Step s n v × AreSteps s vs v

-- the last of them
abbrev pub last_of : {A : Type 0} → List (Internetwork A) → Internetwork A → Internetwork A
last_of [] n = n
last_of (v ∷ vs) n = last_of vs v

-- steps lead from one to another: one event of a world is none, one or several of them
pub record Leads {A : Type 0} (s : ObjectSite A) (n v : Internetwork A) : Type 0 where
  pub between : List (Internetwork A)
  pub steps : AreSteps s between n
  pub last : v ≡ last_of between n
