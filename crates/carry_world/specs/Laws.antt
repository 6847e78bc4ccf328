-- What is promised of a world, from a fresh one on, over every list of its steps.
use Rattle.std.specs.Prelude.{◌≡◌, ◌≤◌, ◌+◌, ℕ, List, [], ◌∷◌, map, Some, slice_get}
use Rattle.std.specs.List.{AllByRecursion}
use Rattle.apdu.specs.Apdu.{PlainApdu, Spells}
use Rattle.carry_said.specs.client.Client.{ClientState}
use Rattle.carry_said.specs.client.Hearing.{ClientHears}
use Rattle.carry_said.specs.client.ClientTold.{ClientTold}
use Rattle.carry_said.specs.client_tsm.Open.{Open}
use Rattle.carry_said.specs.client_tsm.Waking.{woken}
use Rattle.carry_said.specs.client_tsm.declared.plan.TransactionOutcome.{TransactionOutcome}
use Rattle.carry_said.specs.device.Device.{DeviceState}
use Rattle.carry_said.specs.device.Hearing.{DeviceHears}
use Rattle.carry_said.specs.device.DeviceTold.{DeviceTold}
use Rattle.carry_said.specs.headline_site.headline.Happenings.{Fails, Gives, Outcome}
use Rattle.carry_said.specs.headline_site.headline.Protocol.{IsSite}
use Rattle.carry_said.specs.headline_site.headline_bacnet.Protocol.{bacnet}
use Rattle.carry_said.specs.headline_site.headline_bacnet.Refined.{ObjectSite}
use Rattle.carry_said.specs.headline_site.headline_client.Safe as client_side
use Rattle.carry_said.specs.headline_site.headline_client.Told.{outcome_of}
use Rattle.carry_said.specs.headline_site.headline_device.Devices as device_side
use Rattle.carry_said.specs.headline_site.headline_device.Devices.{HasNumbers}
use Rattle.carry_said.specs.headline_site.Fair.{IsNewClient, IsNewDevice}
use Rattle.carry_said.specs.headline_site.Laws.{ComesWhole}
use Rattle.history.specs.Legal.{AnswersWereExecuted, AreClosedOnce, AreExecutedOnce, AreNumbered, IsWhatExecutionsLeave}
use Rattle.history.specs.Legal.{StandAfterIssue}
use Rattle.history.specs.Lists.{Has}
use Rattle.history.specs.declared.Entry.{Entry}
use Rattle.history.specs.declared.Entry.TheVariants as history
use Rattle.history.specs.declared.Entry.TheVariants.{Issue}
use Rattle.inside.specs.Inside.{Covers, HasInside, Said}
use Rattle.npdu.specs.declared.mac.Station.{Station}
use Rattle.npdu.specs.declared.parcel.Parcel.{Parcel}
use Rattle.object_machine.specs.Machine.{after, reply}
use Rattle.object_machine.specs.object_model.Objects.{PlainTable}
use Rattle.primitives.specs.declared.plain_data.Reply.{Reply}
use Rattle.primitives.specs.declared.plain_data.Request.{Request}
use Rattle.profile.specs.Times.{LIFE_MS}
use Rattle.remembered.specs.Records.{AreDistinct}
use Rattle.carry_said.specs.server_answers.Executed.{Executed}
use Rattle.carry_said.specs.server_tsm.Hearing.{Whole}
use Rattle.services.specs.Asked.{request_octets, service_asked}
use Rattle.unitdata.specs.Hearing.{Brings, Heard, says}
use Rattle.carry_world.specs.PlainSteps.{PlainStep, StepsTo}
use Rattle.carry_world.specs.PlainWorld.{Delivers, PlainWorld, last_key}

-- nothing has happened yet: its clients have asked nothing, its devices have their opening objects and numbers that
-- fit, and no two clients and no two devices are at one station
pub record IsFresh {A : Type 0} (s : ObjectSite A) (w : PlainWorld A) : Type 0 where
  pub moment : w.moment ≡ 0
  pub keys : w.keys ≡ []
  pub history : w.history ≡ []
  pub things : w.things ≡ []
  pub said : w.said ≡ []
  pub clients : AllByRecursion IsNewClient w.clients
  pub devices : AllByRecursion (IsNewDevice s) w.devices
  pub clients_apart : AreDistinct (map client_side.station_of w.clients)
  pub devices_apart : AreDistinct (map device_side.station_of w.devices)
  pub numbers : AllByRecursion HasNumbers w.devices

-- over every site, from a fresh world, this holds of what steps leave
abbrev pub Always : (A : Type 0) → (ObjectSite A → PlainWorld A → Type 0) → Type 0
Always A Holds = (s : ObjectSite A) (w v : PlainWorld A) → IsSite (bacnet A) s → IsFresh s w → StepsTo s w v →
    Holds s v

-- nothing happens; one step is steps; steps lead on from where steps led
abbrev pub StaysSo : Type 0 → Type 0
StaysSo A = (s : ObjectSite A) (w : PlainWorld A) → StepsTo s w w

abbrev pub StepLeads : Type 0 → Type 0
StepLeads A = (s : ObjectSite A) (w v : PlainWorld A) → PlainStep s w v → StepsTo s w v

abbrev pub StepsLeadOn : Type 0 → Type 0
StepsLeadOn A = (s : ObjectSite A) (w u v : PlainWorld A) → StepsTo s w u → StepsTo s u v → StepsTo s w v

-- a device as it is judged: its instance, its objects as they opened, and as they are now
pub record Judged (A : Type 0) : Type 0 where
  pub instance : ℕ
  pub opening : PlainTable A
  pub table : PlainTable A

-- the issue i names one of these instances
pub record NamesOne {A : Type 0} (instances : List ℕ) (h : List (Entry Station (Request A) (Reply A))) (i : ℕ) :
    Type 0 where
  pub client : Station
  pub instance : ℕ
  pub request : Request A
  pub moment : ℕ
  pub issue : Has h (Issue i client instance request moment)
  pub one : Has instances instance

-- each execution is of an issue that names one of these instances
abbrev pub ExecutionsNameOne : {A : Type 0} → List ℕ → List (Entry Station (Request A) (Reply A)) → Type 0
ExecutionsNameOne {A} instances h = (i : ℕ) (reply : Reply A) (moment : ℕ) → Has h (history.Executed i reply moment) →
    NamesOne instances h i

-- a history is legal for the devices of a site with these instances, as they are: issues are numbered in order, each
-- other entry stands after its issue, each issue is executed at most once, and at a device that there is, each answer
-- has the reply of an earlier execution of that very issue, no issue is answered or ended twice, all devices are
-- judged, in the order of the site, and the objects of each are what its executions leave
pub record IsLegal {A : Type 0} (instances : List ℕ) (h : List (Entry Station (Request A) (Reply A)))
    (devices : List (Judged A)) : Type 0 where
  pub numbered : AreNumbered h
  pub after_issue : StandAfterIssue h
  pub executed : AreExecutedOnce h
  pub named : ExecutionsNameOne instances h
  pub answered : AnswersWereExecuted h
  pub closed : AreClosedOnce h
  pub all : map (λ d. d.instance) devices ≡ instances
  pub tables : AllByRecursion (λ d. IsWhatExecutionsLeave reply after d.instance d.opening d.table h) devices

-- a device of a world as it is judged, and the instances of these
abbrev pub judged_at : {A : Type 0} → ObjectSite A → DeviceState A → Judged A
judged_at s d = record {
  instance = d.instance;
  opening = s.opening (device_side.station_of d);
  table = d.server.table;
}

abbrev pub instances_at : {A : Type 0} → List (DeviceState A) → List ℕ
instances_at ds = map (λ d. d.instance) ds

-- each device has its station and its instance still, at its place (6.1, 12.11)
abbrev pub AreThemselves : {A : Type 0} → List (DeviceState A) → List (DeviceState A) → Type 0
AreThemselves [] [] = Unit {0}
AreThemselves (d ∷ ds) (e ∷ es) =
    (device_side.station_of e ≡ device_side.station_of d) × (e.instance ≡ d.instance) × AreThemselves ds es
AreThemselves ds es = ⊥

-- whatever steps there are
abbrev pub DevicesStay : Type 0 → Type 0
DevicesStay A = (s : ObjectSite A) (w v : PlainWorld A) → StepsTo s w v → AreThemselves w.devices v.devices

-- what a device executes on what is delivered to it is the request of the last issue of the asker under its invoke ID,
-- which names the instance of this device
pub record IsIssuedTo {A : Type 0} (w : PlainWorld A) (d : DeviceState A) (e : Executed A) : Type 0 where
  pub i : ℕ
  pub moment : ℕ
  pub last : last_key e.asker.station e.asker.invoke_id w.keys ≡ Some i
  pub issue : Has w.history (Issue i e.asker.station d.instance e.request moment)

abbrev pub ExecutedIsIssued : {A : Type 0} → PlainWorld A → Type 0
ExecutedIsIssued {A} w = (place : ℕ) (d left : DeviceState A) (p : Parcel A) (told : DeviceTold A) (e : Executed A) →
    slice_get w.devices place ≡ Some d → Delivers w d.net d.mac p →
    DeviceHears w.moment p.from p.to p.npdu d told left → told.executed ≡ Some e → IsIssuedTo w d e

-- a request that came whole to a device is the whole body of the last issue of the asker under its invoke ID, which
-- names the instance of this device
pub record IsWholeIssue {A : Type 0} (w : PlainWorld A) (d : DeviceState A) (x : Whole A) : Type 0 where
  pub i : ℕ
  pub request : Request A
  pub moment : ℕ
  pub last : last_key x.asked.asker.station x.asked.asker.invoke_id w.keys ≡ Some i
  pub issue : Has w.history (Issue i x.asked.asker.station d.instance request moment)
  pub service : x.asked.service ≡ service_asked request
  pub octets : x.octets ≡ request_octets request

-- so is each that comes whole by what is delivered to it, be it executed, rejected or aborted (5.4.5)
abbrev pub WholeIsIssued : {A : Type 0} → PlainWorld A → Type 0
WholeIsIssued {A} w = (place : ℕ) (d : DeviceState A) (p : Parcel A) (x : Whole A) →
    slice_get w.devices place ≡ Some d → Delivers w d.net d.mac p → ComesWhole w.moment p.from p.to p.npdu d x →
    IsWholeIssue w d x

-- the reply of an outcome is that of an execution of the issue
abbrev pub IsExecuted : {A : Type 0} → PlainWorld A → ℕ → Outcome (Reply A) → Type 0
IsExecuted w i (Gives r) = (moment : ℕ) × Has w.history (history.Executed i r moment)
IsExecuted w i (Fails why) = Unit {0}

-- what a client tells is of its last issue under that invoke ID, which has the request of the transaction
pub record IsOfItsIssue {A : Type 0} (w : PlainWorld A) (c : ClientState A) (t : TransactionOutcome A) : Type 0 where
  pub transaction : Open A
  pub there : Has c.machine.open_ones transaction
  pub id : t.invoke_id ≡ transaction.invoke_id
  pub i : ℕ
  pub instance : ℕ
  pub moment : ℕ
  pub last : last_key (client_side.station_of c) transaction.invoke_id w.keys ≡ Some i
  pub issue : Has w.history (Issue i (client_side.station_of c) instance transaction.request moment)
  pub executed : IsExecuted w i (outcome_of t.outcome)

-- so is all that it tells on what is delivered to it (5.4.4)
abbrev pub OutcomesAreOfIssues : {A : Type 0} → PlainWorld A → Type 0
OutcomesAreOfIssues {A} w = (place : ℕ) (c next : ClientState A) (p : Parcel A) (told : ClientTold A) →
    slice_get w.clients place ≡ Some c → Delivers w c.net c.mac p →
    ClientHears w.moment p.from p.to p.npdu c told next → AllByRecursion (λ t. IsOfItsIssue w c t) told.outcomes

-- so is what a client tells where it wakes: a time-out has its issue (5.4.4.2)
abbrev pub WokenAreOfIssues : {A : Type 0} → PlainWorld A → Type 0
WokenAreOfIssues {A} w = (place : ℕ) (c : ClientState A) → slice_get w.clients place ≡ Some c →
    AllByRecursion (λ t. IsOfItsIssue w c t) (woken w.moment c.machine.open_ones).told

-- an APDU that a station hears of a parcel at this moment was said, octet for octet, by the station that is named as
-- its source, for a destination that covers this one, at most LIFE_MS ago (6.2, 6.3)
pub record IsHeardAsSaid {A : Type 0} (now : ℕ) (l : List Said) (x : Station) (p : Parcel A) (h : Heard)
    (a : PlainApdu) : Type 0 where
  pub said : Said
  pub there : Has l said
  pub has : HasInside x.net p.from p.to p.npdu said.inside
  pub source : said.inside.source ≡ h.station
  pub covers : Covers said.inside.reach x
  pub spelled : Spells said.inside.apdu a
  pub young : now ≤ said.stamp + LIFE_MS

-- whatever a station hears of what is delivered to it was said so
abbrev pub AllHearSaid : {A : Type 0} → PlainWorld A → Type 0
AllHearSaid {A} w = (x : Station) (p : Parcel A) (h : Heard) (a : PlainApdu) → Delivers w x.net x.mac p →
    Brings x.net p.from p.to p.npdu h → h.content ≡ says a → IsHeardAsSaid w.moment w.said x p h a
