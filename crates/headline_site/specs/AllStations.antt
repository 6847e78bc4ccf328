-- All stations of a site: its clients and devices over one book, and what happens to them.
use Rattle.std.specs.Prelude.{ℕ, ◌+◌, Bool, List, [], ◌∷◌, Option, Some, None, Result, slice_get, slice_set}
use Rattle.apdu.specs.declared.apdu.Apdu.{Apdu}
use Rattle.apdu.specs.declared.numbers.RejectReason.{RejectReason}
use Rattle.apdu.specs.declared.sizes.MaxApdu.{MaxApdu}
use Rattle.apdu.specs.declared.unconfirmed.IAm.{IAm}
use Rattle.bindings.specs.Binding.{binding_of, introduced, mark_refused, put_binding}
use Rattle.headline_client.specs.client.Client.{ClientState}
use Rattle.bindings.specs.declared.binding.Binding.{Binding}
use Rattle.headline_client.specs.client_tsm.Client as client
use Rattle.headline_client.specs.client_tsm.Hearing as client_hearing
use Rattle.headline_client.specs.client_tsm.Issuing.{issued}
use Rattle.headline_client.specs.client_tsm.Waking as client_waking
use Rattle.headline_client.specs.client_tsm.declared.plan.ClientTsmPlan.{ClientTsmPlan}
use Rattle.headline_device.specs.Devices.{Deed, after_deed, announces, left_of_deed, serves}
use Rattle.headline_device.specs.Devices as deeds
use Rattle.headline_device.specs.device.Device.{DeviceState, restarts}
use Rattle.headline.specs.Happenings as core
use Rattle.history.specs.Book.{Broadcast, Message, Other}
use Rattle.npdu.specs.declared.mac.Station.{Station}
use Rattle.npdu.specs.declared.mac.Way.{Way}
use Rattle.npdu.specs.declared.message.NetworkRejectReason as network
use Rattle.headline_client.specs.headline_bacnet.Refined.{ObjectSite, ObjectCore}
use Rattle.primitives.specs.declared.plain_data.Reply.{Reply}
use Rattle.primitives.specs.declared.plain_data.Request.{Request}
use Rattle.headline_device.specs.headline_server.Refines.{begun_anew}
use Rattle.headline_device.specs.server_tsm.Hearing as server_hearing
use Rattle.headline_client.specs.server_answers.Plan as server_plan
use Rattle.headline_device.specs.server_tsm.Server as server
use Rattle.headline_device.specs.server_tsm.Steps.{told_of_plan}
use Rattle.headline_device.specs.server_tsm.Waking as server_waking
use Rattle.headline_client.specs.server_answers.declared.asked.Origin.{Origin}
use Rattle.headline_client.specs.Safe.{safe_client, station_of}
use Rattle.headline_client.specs.Told.{acts, issues, row_of}

-- core: the book, and what safety sees of each station
pub record AllStations (A : Type 0) : Type 0 where
  pub core : ObjectCore A
  pub clients : List (ClientState A)
  pub devices : List (DeviceState A)

-- what happens: clients and devices are named by their places. A station hears a message of the book, in an APDU; found
-- is what the service data mean that come whole by it
pub data Event (A : Type 0) : Type 0 where
  Passes : (n : ℕ) → Event A
  Issues : (place instance : ℕ) (request : Request A) → Event A
  Asks_who : (place : ℕ) → Event A
  Client_hears : (place : ℕ) (m : Message Station) (apdu : Apdu) (found : Option (Reply A)) → Event A
  Client_learns : (place : ℕ) (m : Message Station) (way : Way) (i : IAm) → Event A
  Client_marks : (place : ℕ) (reason : network.NetworkRejectReason) (net : ℕ) → Event A
  Client_wakes : (place : ℕ) → Event A
  Device_hears : (place : ℕ) (m : Message Station) (way : Way) (by_broadcast : Bool) (apdu : Apdu)
      (found : Option (Result (Request A) RejectReason)) → Event A
  Announces : (place : ℕ) → Event A
  Device_wakes : (place : ℕ) → Event A
  Restarts : (place : ℕ) → Event A

-- the moment
abbrev pub now : {A : Type 0} → AllStations A → ℕ
now w = w.core.book.moment

-- the client at a place is this then, and the core that
abbrev pub with_client : {A : Type 0} → ℕ → ClientState A → ObjectCore A → AllStations A → AllStations A
with_client place c core w = record w { core = core; clients = slice_set w.clients place c }

-- the device at a place is this then, and the core that
abbrev pub with_device : {A : Type 0} → ℕ → DeviceState A → ObjectCore A → AllStations A → AllStations A
with_device place d core w = record w { core = core; devices = slice_set w.devices place d }

-- what its client of transactions plans is done (5.4.4). own: the greatest APDU of each station (12.11)
abbrev pub client_does : {A : Type 0} → (own : Station → MaxApdu) → ℕ → ClientTsmPlan A → ClientState A →
    AllStations A → AllStations A
client_does own place plan c w =
    let next = record c { machine = client.committed (now w) plan.change c.machine } in
    with_client place next (acts own (station_of c) plan.said plan.told (safe_client own next) w.core) w

-- it has these bindings then (16.10.3)
abbrev pub client_holds : {A : Type 0} → (own : Station → MaxApdu) → ℕ → List Binding → ClientState A → AllStations A →
    AllStations A
client_holds own place bindings c w =
    let next = record c { bindings = bindings } in
    with_client place next (acts own (station_of c) [] [] (safe_client own next) w.core) w

-- what it plans on an APDU from a station
abbrev pub heard_plan : {A : Type 0} → ℕ → Station → Apdu → Option (Reply A) → ClientState A → ClientTsmPlan A
heard_plan now from apdu found c =
    client_hearing.finished (client_hearing.reached now from (client_hearing.heard_of apdu) c.machine) found

-- it issues a request to where the device of an instance is bound (5.4.4.1)
abbrev pub client_issues : {A : Type 0} → (own : Station → MaxApdu) → ℕ → (instance : ℕ) → Request A → Option Binding →
    ClientState A → AllStations A → AllStations A
client_issues own place instance request None c w = w
client_issues own place instance request (Some b) c w =
    let plan = issued (now w) request b.bound c.machine in
    let next = record c { machine = client.committed (now w) plan.change c.machine } in
    with_client place next
    (issues own (station_of c) (row_of own (station_of c) (now w) instance request b.bound c.machine) plan.said
    (safe_client own next) w.core) w

-- a device does this (5.4.5, 16.10.2)
abbrev pub device_does : {A : Type 0} → ℕ → Deed A → DeviceState A → AllStations A → AllStations A
device_does place deed d w = with_device place (left_of_deed d deed) (after_deed d deed w.core) w

-- a step of its server by a plan
abbrev pub deed_by : {A : Type 0} → ℕ → server_plan.ServerPlan A → DeviceState A → Deed A
deed_by now plan d = serves (told_of_plan plan) (server.committed now plan.change d.server)

-- what its server plans on an APDU from a station
abbrev pub asked_plan : {A : Type 0} → ℕ → Origin → Apdu → Option (Result (Request A) RejectReason) → DeviceState A →
    server_plan.ServerPlan A
asked_plan now from apdu found d =
    server_hearing.finished now (server_hearing.reached now from (server_hearing.heard_of apdu) d.server) found d.server

-- it restarts, with the opening objects of its station
abbrev pub device_restarts : {A : Type 0} → ObjectSite A → ℕ → DeviceState A → AllStations A → AllStations A
device_restarts s place d w =
    let left = restarts (now w) (s.opening (deeds.station_of d)) d in
    with_device place left (begun_anew (deeds.station_of d) d.instance left.server w.core) w

-- what happens to the one at a place, if there is one
abbrev pub to_one : {A X : Type 0} → Option X → (X → AllStations A → AllStations A) → AllStations A → AllStations A
to_one None f w = w
to_one (Some x) f w = f x w

-- what comes of an event
abbrev pub step : {A : Type 0} → (own : Station → MaxApdu) → ObjectSite A → AllStations A → Event A → AllStations A
step own s w (Passes n) =
    record w { core = record w.core { book = record w.core.book { moment = w.core.book.moment + n } } }
step own s w (Issues place instance request) = to_one (slice_get w.clients place)
    (λ c v. client_issues own place instance request (binding_of instance c.bindings) c v) w
step own s w (Asks_who place) = to_one (slice_get w.clients place)
    (λ c v. record v { core = core.says (station_of c) Broadcast (Other ∷ []) v.core }) w
step own s w (Client_hears place m apdu found) = to_one (slice_get w.clients place)
    (λ c v. client_does own place (heard_plan (now v) m.from apdu found c) c v) w
step own s w (Client_learns place m way i) = to_one (slice_get w.clients place)
    (λ c v. client_holds own place (put_binding (introduced m.from way i) c.bindings) c v) w
step own s w (Client_marks place reason net) = to_one (slice_get w.clients place)
    (λ c v. client_holds own place (mark_refused reason net c.bindings) c v) w
step own s w (Client_wakes place) = to_one (slice_get w.clients place)
    (λ c v. client_does own place (client_waking.woken (now v) c.machine.open_ones) c v) w
step own s w (Device_hears place m way by_broadcast apdu found) = to_one (slice_get w.devices place)
    (λ d v. device_does place (deed_by (now v)
    (asked_plan (now v) (record { station = m.from; way = way; by_broadcast = by_broadcast }) apdu found d) d) d v) w
step own s w (Announces place) = to_one (slice_get w.devices place) (λ d v. device_does place announces d v) w
step own s w (Device_wakes place) = to_one (slice_get w.devices place)
    (λ d v. device_does place (deed_by (now v) (server_waking.woken (now v) d.server.records) d) d v) w
step own s w (Restarts place) = to_one (slice_get w.devices place) (λ d v. device_restarts s place d v) w

-- one after another
abbrev pub steps : {A : Type 0} → (own : Station → MaxApdu) → ObjectSite A → List (Event A) → AllStations A →
    AllStations A
steps own s [] w = w
steps own s (e ∷ es) w = steps own s es (step own s w e)
