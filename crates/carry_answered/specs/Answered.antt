-- A request that is answered, since nothing is lost on its way and nothing hinders its device.
use Rattle.std.specs.Prelude.{◌≡◌, ◌≤◌, ℕ, true, false, [], ◌∷◌, ◌++◌, length, None}
use Rattle.bindings.specs.Limits as request
use Rattle.bindings.specs.declared.binding.Binding.{Binding}
use Rattle.carry_world.specs.Laws.{IsFresh}
use Rattle.carry_world.specs.PlainSteps.{ClientHearsIt, ClientIssues, DeviceHearsIt, StepsTo}
use Rattle.carry_world.specs.PlainWorld.{PlainWorld}
use Rattle.carry_world.specs.carry_said.headline_site.headline.Protocol.{IsSite}
use Rattle.carry_world.specs.carry_said.headline_site.headline_device.Devices as devices
use Rattle.client.specs.Client.{ClientState}
use Rattle.device.specs.Device.{DeviceState}
use Rattle.headline_bacnet.specs.Protocol.{bacnet}
use Rattle.headline_bacnet.specs.Refined.{ObjectSite}
use Rattle.carry_world.specs.headline_client.Safe.{room_from, station_of}
use Rattle.history.specs.Lists.{Has}
use Rattle.history.specs.declared.Entry.TheVariants.{Answered, Executed, Issue}
use Rattle.inside.specs.Inside.{HasInside, Inside}
use Rattle.npdu.specs.declared.parcel.Parcel.{Parcel}
use Rattle.primitives.specs.declared.plain_data.Reply.{Reply}
use Rattle.primitives.specs.declared.plain_data.Request.{Request}
use Rattle.remembered.specs.Records.{is_full}
use Rattle.remembered.specs.declared.record.RememberedAnswer.{RememberedAnswer}
use Rattle.remembered.specs.declared.record.RememberedAnswer.TheVariants as kept
use Rattle.server_answers.specs.Answering.{answer_of}
use Rattle.server_answers.specs.Limits as answer
use Rattle.services.specs.Asked.{replied, request_octets}
use Rattle.unitdata.specs.Hearing.{is_alone}

-- time passes, and things are passed on, while no client and no device does anything
pub record Waits {A : Type 0} (w v : PlainWorld A) : Type 0 where
  pub later : w.moment ≤ v.moment
  pub clients : v.clients ≡ w.clients
  pub devices : v.devices ≡ w.devices
  pub keys : v.keys ≡ w.keys
  pub history : v.history ≡ w.history

-- a parcel brings one station of its network what is inside another, as it was said or passed on: from the same
-- station, with the same APDU and stamp, and without a destination beyond that network (6.2.2, 6.5.2)
pub record BringsOf {A : Type 0} (net : ℕ) (p : Parcel A) (other : ℕ) (q : Parcel A) : Type 0 where
  pub inside : Inside
  pub said : HasInside net p.from p.to p.npdu inside
  pub brought : HasInside other q.from q.to q.npdu inside
  pub last : brought.header.destination ≡ None
  pub alone : is_alone q.to brought.header.destination ≡ true
  pub stamp : q.stamp ≡ p.stamp

-- an answer goes in one APDU, where so many octets of it go in a segment (5.2.1.1)
abbrev pub GoesWhole : {A : Type 0} → ℕ → RememberedAnswer A → Type 0
GoesWhole chunk (kept.Complex octets) = answer.goes_whole chunk (length octets) ≡ true
GoesWhole chunk other = Unit {0}

-- a request goes in one APDU, and so does the answer of this device to it (5.2.1)
pub record GoInOne {A : Type 0} (c : ClientState A) (b : Binding) (d : DeviceState A) (r : Request A) : Type 0 where
  pub asked : request.goes_whole (request.apdu_limit c.machine.accepts b.bound) (length (request_octets r)) ≡ true
  pub answered : GoesWhole (room_from d.server.max_apdu c.machine.accepts) (answer_of r (replied d.server.table r))

-- a device is past its quiet time, and has a place for an answer (5.4.5.1)
pub record IsReady {A : Type 0} (now : ℕ) (d : DeviceState A) : Type 0 where
  pub listens : d.server.quiet_until ≤ now
  pub place : is_full now d.server.records ≡ false

-- a client issues a request to a device; what it says is brought to the device while that is ready, and what the device
-- says then is brought to the client, each within LIFE_MS; nothing else happens to the two
pub record Exchange {A : Type 0} (w v : PlainWorld A) : Type 0 where
  pub asked : PlainWorld A
  pub issues : ClientIssues w asked
  pub request : Parcel A
  pub says : Has issues.told.said request
  pub arriving : PlainWorld A
  pub way_there : Waits asked arriving
  pub served : PlainWorld A
  pub executes : DeviceHearsIt arriving served
  pub brings : BringsOf issues.c.net request executes.d.net executes.p
  pub bound : issues.issues.binding.bound.station ≡ devices.station_of executes.d
  pub whole : GoInOne issues.c issues.issues.binding executes.d issues.request
  pub ready : IsReady arriving.moment executes.d
  pub answer : Parcel A
  pub answers : Has executes.told.said answer
  pub returning : PlainWorld A
  pub way_back : Waits served returning
  pub hears : ClientHearsIt returning v
  pub same : hears.place ≡ issues.place
  pub returns : BringsOf executes.d.net answer hears.c.net hears.p

-- the reply that the objects of its device give to the request (15)
abbrev pub reply_in : {A : Type 0} {w v : PlainWorld A} → Exchange w v → Reply A
reply_in e = replied e.executes.d.server.table e.issues.request

-- the request was executed and answered, once each, with that reply
abbrev pub IsAnswered : {A : Type 0} (w v : PlainWorld A) → Exchange w v → Type 0
IsAnswered w v e = v.history ≡ w.history ++
    (Issue (length w.keys) (station_of e.issues.c) e.issues.instance e.issues.request w.moment ∷
    Executed (length w.keys) (reply_in e) e.arriving.moment ∷
    Answered (length w.keys) (reply_in e) e.returning.moment ∷ [])

-- so is each, whatever was before (5.4.4, 5.4.5)
abbrev pub ExchangesAreAnswered : Type 0 → Type 0
ExchangesAreAnswered A = (s : ObjectSite A) (fresh w v : PlainWorld A) → IsSite (bacnet A) s → IsFresh s fresh →
    StepsTo s fresh w → (e : Exchange w v) → IsAnswered w v e
