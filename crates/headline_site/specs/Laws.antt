-- What is promised of all stations of a site, over every fair list of events.
use Rattle.std.specs.Prelude.{◌≡◌, ℕ, Bool, List, Option, Some, Result, slice_get}
use Rattle.std.specs.List.{AllByRecursion}
use Rattle.apdu.specs.Apdu.{HasNamedNumbers, apdu_of}
use Rattle.apdu.specs.declared.apdu.Apdu.{Apdu}
use Rattle.apdu.specs.declared.numbers.RejectReason.{RejectReason}
use Rattle.apdu.specs.declared.sizes.MaxApdu.{MaxApdu}
use Rattle.headline_client.specs.client.Client.{ClientState}
use Rattle.headline_client.specs.client.Hearing.{ClientHears}
use Rattle.headline_client.specs.client.ClientTold.{ClientTold}
use Rattle.headline_client.specs.client_tsm.Open.{Open}
use Rattle.headline_client.specs.client_tsm.Waking.{woken}
use Rattle.headline_client.specs.client_tsm.declared.plan.TransactionOutcome.{TransactionOutcome}
use Rattle.headline_device.specs.Devices.{deed_in, left_of_deed, station_of}
use Rattle.headline_device.specs.device.Device.{DeviceState}
use Rattle.headline_device.specs.device.Hearing.{DeviceHears, origin_of}
use Rattle.headline_device.specs.device.DeviceTold as device_told
use Rattle.headline.specs.Happenings.{Happening, after_all}
use Rattle.headline.specs.Honest.{AreHonest}
use Rattle.headline.specs.Protocol.{IsSite}
use Rattle.headline.specs.Promised.{IsExecutedReply, IsOfIssue, IsWholeRequest, StaysSaid}
use Rattle.history.specs.Book.{Message}
use Rattle.history.specs.Legal.{IsWhatExecutionsLeave}
use Rattle.history.specs.Lists.{Has}
use Rattle.npdu.specs.declared.mac.Mac.{Mac}
use Rattle.npdu.specs.declared.mac.Station.{Station}
use Rattle.npdu.specs.declared.mac.Target.{Target}
use Rattle.npdu.specs.declared.mac.Way.{Way}
use Rattle.headline_client.specs.headline_bacnet.Bodies.{head_of}
use Rattle.headline_client.specs.headline_bacnet.Network.{BringsWhatWasSaid}
use Rattle.headline_client.specs.headline_bacnet.Protocol.{bacnet}
use Rattle.headline_client.specs.headline_bacnet.Refined.{ObjectSite, Refined, ObjectCore}
use Rattle.object_model.specs.Objects.{PlainTable}
use Rattle.primitives.specs.declared.plain_data.Reply.{Reply}
use Rattle.primitives.specs.declared.plain_data.Request.{Request}
use Rattle.headline_client.specs.server_answers.Executed.{Executed}
use Rattle.headline_device.specs.server_tsm.Hearing.{Whole, completes, heard_of, reached}
use Rattle.headline_client.specs.services.Asked.{left_by, replied}
use Rattle.unitdata.specs.Hearing.{Brings, Heard, says}
use Rattle.headline_client.specs.Heard.{said_in}
use Rattle.headline_client.specs.Safe as client
use Rattle.headline_client.specs.Safe.{safe_client}
use Rattle.headline_client.specs.Told.{acts, outcome_of}
use Rattle.headline_site.specs.Fair.{AreFair, ClientMayHear, DeviceMayHear, IsBegun, IsFair, Stands}
use Rattle.headline_site.specs.AllStations.{Event, AllStations, asked_plan, device_does, heard_plan, now, step, steps}
use Rattle.headline_site.specs.AllStations.{with_client}

-- what comes of a fair event is a list of honest happenings, and the core stays what safety sees of each station
pub record Goes {A : Type 0} (own : Station → MaxApdu) (s : ObjectSite A) (w v : AllStations A) : Type 0 where
  pub refined : Refined s w.core v.core
  pub stands : Stands own s v

abbrev pub StepRefines : Type 0 → Type 0
StepRefines A = (own : Station → MaxApdu) (s : ObjectSite A) (w : AllStations A) (e : Event A) → Stands own s w →
    IsFair own w e → Goes own s w (step own s w e)

-- where a site begins, the core is what safety sees of each station
abbrev pub BeginsWell : Type 0 → Type 0
BeginsWell A = (own : Station → MaxApdu) (s : ObjectSite A) (w : AllStations A) → IsBegun s w → Stands own s w

-- nothing that was said is taken back
abbrev pub SaidStays : Type 0 → Type 0
SaidStays A = (own : Station → MaxApdu) (s : ObjectSite A) (w : AllStations A) (e : Event A) → Stands own s w →
    IsFair own w e → StaysSaid w.core.book (step own s w e).core.book

-- over every site, from its start, and every fair list of events, this holds of what comes of them
abbrev pub Always : (A : Type 0) → (ObjectSite A → AllStations A → Type 0) → Type 0
Always A Holds = (own : Station → MaxApdu) (s : ObjectSite A) (w : AllStations A) (es : List (Event A)) →
    IsSite (bacnet A) s → IsBegun s w → AreFair own s es w → Holds s (steps own s es w)

-- honest happenings lead to these stations
pub record IsReached {A : Type 0} (s : ObjectSite A) (k : ObjectCore A) : Type 0 where
  pub happenings : List (Happening Station (Request A) (Reply A) (PlainTable A))
  pub honest : AreHonest (bacnet A) s happenings
  pub same : k ≡ after_all (bacnet A) s happenings

-- over every site, this holds wherever honest happenings led and the core is what safety sees of each station, whatever
-- the steps were
abbrev pub Wherever : (A : Type 0) → ((Station → MaxApdu) → ObjectSite A → AllStations A → Type 0) → Type 0
Wherever A Holds = (own : Station → MaxApdu) (s : ObjectSite A) (w : AllStations A) → IsSite (bacnet A) s →
    IsReached s w.core → Stands own s w → Holds own s w

-- honest happenings lead to where a site begins
abbrev pub BeginsReached : Type 0 → Type 0
BeginsReached A = (s : ObjectSite A) (w : AllStations A) → IsBegun s w → IsReached s w.core

-- they lead on where stations go on
abbrev pub ReachedThen : Type 0 → Type 0
ReachedThen A = (own : Station → MaxApdu) (s : ObjectSite A) (w v : AllStations A) → IsReached s w.core →
    Goes own s w v → IsReached s v.core

-- stations go on from where they went
abbrev pub GoesThen : Type 0 → Type 0
GoesThen A = (own : Station → MaxApdu) (s : ObjectSite A) (w u v : AllStations A) → Goes own s w u → Goes own s u v →
    Goes own s w v

-- the objects of each device are what the executed requests leave whose issue names its instance, in their order, from
-- its opening objects, and anew from there after each restart; and the replies are the object machine's (12, 15, 19)
abbrev pub TableIsLeft : {A : Type 0} → ObjectSite A → AllStations A → DeviceState A → Type 0
TableIsLeft s w d =
    IsWhatExecutionsLeave replied left_by d.instance (s.opening (station_of d)) d.server.table w.core.book.history

-- the objects of all devices are what their executions leave
abbrev pub TablesAreLeft : {A : Type 0} → ObjectSite A → AllStations A → Type 0
TablesAreLeft s w = AllByRecursion (λ d. TableIsLeft s w d) w.devices

-- what a client tells is of its last issue under that invoke ID: that has the request of the transaction, and names the
-- instance of the station addressed; a reply is that of an execution of it (5.4.4)
pub record IsOfItsIssue {A : Type 0} (s : ObjectSite A) (w : AllStations A) (c : ClientState A)
    (t : TransactionOutcome A) : Type 0 where
  pub transaction : Open A
  pub there : Has c.machine.open_ones transaction
  pub id : t.invoke_id ≡ transaction.invoke_id
  pub of : IsOfIssue (bacnet A) s w.core.book (client.station_of c) transaction.invoke_id transaction.station
      transaction.request
  pub executed : IsExecutedReply w.core.book of.i (outcome_of t.outcome)

-- all that a client tells of what it may hear is of an issue
abbrev pub HeardIsOfIssues : {A : Type 0} → (own : Station → MaxApdu) → ObjectSite A → AllStations A → Type 0
HeardIsOfIssues {A} own s w = (place : ℕ) (m : Message Station) (apdu : Apdu) (found : Option (Reply A))
    (c : ClientState A) → slice_get w.clients place ≡ Some c → ClientMayHear own w m apdu found c →
    AllByRecursion (λ t. IsOfItsIssue s w c t) (heard_plan (now w) m.from apdu found c).told

-- all that a client tells where it wakes is of an issue
abbrev pub WokenIsOfIssues : {A : Type 0} → (own : Station → MaxApdu) → ObjectSite A → AllStations A → Type 0
WokenIsOfIssues {A} own s w = (place : ℕ) (c : ClientState A) → slice_get w.clients place ≡ Some c →
    AllByRecursion (λ t. IsOfItsIssue s w c t) (woken (now w) c.machine.open_ones).told

-- over every site, from its start, and every fair list of events
abbrev pub OutcomesAreOfIssues : Type 0 → Type 0
OutcomesAreOfIssues A = (own : Station → MaxApdu) (s : ObjectSite A) (w : AllStations A) (es : List (Event A)) →
    IsSite (bacnet A) s → IsBegun s w → AreFair own s es w →
    HeardIsOfIssues own s (steps own s es w) × WokenIsOfIssues own s (steps own s es w)

-- what a device executes of what it may hear is the request of the last issue of the asker under its invoke ID, which
-- names the instance of the device (5.4.5)
abbrev pub ExecutedIsIssued : {A : Type 0} → ObjectSite A → AllStations A → Type 0
ExecutedIsIssued {A} s w = (place : ℕ) (m : Message Station) (way : Way) (by_broadcast : Bool) (apdu : Apdu)
    (found : Option (Result (Request A) RejectReason)) (d : DeviceState A) (e : Executed A) →
    slice_get w.devices place ≡ Some d → DeviceMayHear w m way by_broadcast apdu found d →
    (asked_plan (now w) (record { station = m.from; way = way; by_broadcast = by_broadcast }) apdu found d).executed ≡
    Some e →
    IsOfIssue (bacnet A) s w.core.book e.asker.station e.asker.invoke_id (station_of d) e.request

-- what a device executes on an NPDU by its contract, where what it brings was said, is the request of the last issue of
-- the asker under its invoke ID, which names the instance of the device (5.4.5)
abbrev pub HearingExecutesIssued : {A : Type 0} → ObjectSite A → AllStations A → Type 0
HearingExecutesIssued {A} s w = (place : ℕ) (d left : DeviceState A) (from : Mac) (to : Target) (npdu : List ℕ)
    (told : device_told.DeviceTold A) (e : Executed A) → slice_get w.devices place ≡ Some d →
    BringsWhatWasSaid d.server.max_apdu w.core.book (station_of d) from to npdu →
    DeviceHears (now w) from to npdu d told left → told.executed ≡ Some e →
    IsOfIssue (bacnet A) s w.core.book e.asker.station e.asker.invoke_id (station_of d) e.request

-- a request comes whole to a device by this NPDU, before any service data are read (5.4.5.1, 5.4.5.2)
pub record ComesWhole {A : Type 0} (now : ℕ) (from : Mac) (to : Target) (npdu : List ℕ) (d : DeviceState A)
    (x : Whole A) : Type 0 where
  pub heard : Heard
  pub brings : Brings d.net from to npdu heard
  pub apdu : Apdu
  pub named : HasNamedNumbers apdu
  pub content : heard.content ≡ says (apdu_of apdu)
  pub whole : reached now (origin_of heard) (heard_of apdu) d.server ≡ completes x

-- a request that comes whole to a device, executed, rejected or aborted, is the whole body of an issue of the asker to
-- it, where what the NPDU brings was said (5.4.5)
abbrev pub HearingIsWholeIssue : {A : Type 0} → ObjectSite A → AllStations A → Type 0
HearingIsWholeIssue {A} s w = (place : ℕ) (d : DeviceState A) (from : Mac) (to : Target) (npdu : List ℕ) (x : Whole A) →
    slice_get w.devices place ≡ Some d →
    BringsWhatWasSaid d.server.max_apdu w.core.book (station_of d) from to npdu →
    ComesWhole (now w) from to npdu d x →
    IsWholeRequest (bacnet A) s w.core.book (station_of d) x.asked.asker.station x.asked.asker.invoke_id
    (head_of d.server.max_apdu x.asked.limits x.asked.service) x.octets

-- what a client tells on an NPDU by its contract, where what it brings was said, is of its issues (5.4.4)
abbrev pub HearingTellsOfIssues : {A : Type 0} → (own : Station → MaxApdu) → ObjectSite A → AllStations A → Type 0
HearingTellsOfIssues {A} own s w = (place : ℕ) (c next : ClientState A) (from : Mac) (to : Target) (npdu : List ℕ)
    (told : ClientTold A) → slice_get w.clients place ≡ Some c →
    BringsWhatWasSaid (own (client.station_of c)) w.core.book (client.station_of c) from to npdu →
    ClientHears (now w) from to npdu c told next → AllByRecursion (λ t. IsOfItsIssue s w c t) told.outcomes

-- what a client does on an NPDU by its contract, where what it brings was said, goes well
abbrev pub ClientHearingGoes : Type 0 → Type 0
ClientHearingGoes A = (own : Station → MaxApdu) (s : ObjectSite A) (w : AllStations A) (place : ℕ)
    (c next : ClientState A) (from : Mac) (to : Target) (npdu : List ℕ) (told : ClientTold A) → Stands own s w →
    slice_get w.clients place ≡ Some c →
    BringsWhatWasSaid (own (client.station_of c)) w.core.book (client.station_of c) from to npdu →
    (h : ClientHears (now w) from to npdu c told next) →
    Goes own s w (with_client place next (acts own (client.station_of c) (said_in (now w) from to npdu c told next h)
    told.outcomes (safe_client own next) w.core) w)

-- what a device does on an NPDU by its contract, where what it brings was said, goes as well
abbrev pub DeviceHearingGoes : Type 0 → Type 0
DeviceHearingGoes A = (own : Station → MaxApdu) (s : ObjectSite A) (w : AllStations A) (place : ℕ)
    (d left : DeviceState A) (from : Mac) (to : Target) (npdu : List ℕ) (told : device_told.DeviceTold A) →
    Stands own s w → slice_get w.devices place ≡ Some d →
    BringsWhatWasSaid d.server.max_apdu w.core.book (station_of d) from to npdu →
    (h : DeviceHears (now w) from to npdu d told left) →
    Goes own s w (device_does place (deed_in (now w) from to npdu d told left h) d w)
    × (left ≡ left_of_deed d (deed_in (now w) from to npdu d told left h))
