-- What comes of an event of a world: the station addressed makes its own step, no other station changes, and the
-- history grows by what was issued and told.
use Rattle.std.specs.Prelude.{◌≡◌, ◌⊎◌, ℕ, ◌+◌, List, [], ◌∷◌, ◌++◌, length, Option, None, Some, slice_get, slice_set}
use Rattle.apdu.specs.declared.unconfirmed.Limits.{Limits}
use Rattle.carry.specs.Passing.{PassesOn}
use Rattle.carry.specs.Things.{Thing}
use Rattle.carry_said.specs.client.Client.{ClientState}
use Rattle.carry_said.specs.client.Hearing.{ClientHears}
use Rattle.carry_said.specs.client.Issuing as issuing
use Rattle.carry_said.specs.client.Issuing.{refusal}
use Rattle.carry_said.specs.client.Saying.{parcels_of, who_is_parcel}
use Rattle.carry_said.specs.client.declared.plan.ClientIssued.{ClientIssued}
use Rattle.carry_said.specs.client.ClientTold as client
use Rattle.carry_said.specs.client_tsm.Waking as client_waking
use Rattle.carry_said.specs.device.Device.{DeviceState, restarts}
use Rattle.carry_said.specs.device.Hearing.{DeviceHears}
use Rattle.carry_said.specs.device.Saying.{told_of}
use Rattle.carry_said.specs.device.DeviceTold as device
use Rattle.history.specs.Lists.{Has}
use Rattle.history.specs.declared.Entry.TheVariants.{Issue, Restarted}
use Rattle.npdu.specs.declared.parcel.Parcel.{Parcel}
use Rattle.carry_said.specs.headline_site.headline_bacnet.Refined.{ObjectSite}
use Rattle.primitives.specs.Sound.{IsSoundRequest}
use Rattle.primitives.specs.declared.plain_data.Request.{Request}
use Rattle.carry_said.specs.server_tsm.Server.{committed}
use Rattle.carry_said.specs.server_tsm.Steps.{told_of_plan}
use Rattle.carry_said.specs.server_tsm.Waking as server_waking
use Rattle.carry_said.specs.headline_site.headline_client.Laws.{awake}
use Rattle.carry_said.specs.headline_site.headline_client.Safe as client_side
use Rattle.carry_said.specs.headline_site.headline_device.Devices as device_side
use Rattle.carry_world.specs.PlainWorld.{Delivers, PlainWorld, Puts, executed_told, outcomes_told}

-- a device hears what is delivered to it (5.4.5, 16.10.2)
pub record DeviceHearsIt {A : Type 0} (w v : PlainWorld A) : Type 0 where
  pub place : ℕ
  pub d : DeviceState A
  pub left : DeviceState A
  pub p : Parcel A
  pub told : device.DeviceTold A
  pub there : slice_get w.devices place ≡ Some d
  pub delivered : Delivers w d.net d.mac p
  pub hears : DeviceHears w.moment p.from p.to p.npdu d told left
  pub moment : v.moment ≡ w.moment
  pub clients : v.clients ≡ w.clients
  pub devices : v.devices ≡ slice_set w.devices place left
  pub keys : v.keys ≡ w.keys
  pub history : v.history ≡ executed_told w.moment told.executed w.keys w.history
  pub puts : Puts w v d.net told.said

-- a client hears what is delivered to it (5.4.4, 16.10.3)
pub record ClientHearsIt {A : Type 0} (w v : PlainWorld A) : Type 0 where
  pub place : ℕ
  pub c : ClientState A
  pub next : ClientState A
  pub p : Parcel A
  pub told : client.ClientTold A
  pub there : slice_get w.clients place ≡ Some c
  pub delivered : Delivers w c.net c.mac p
  pub hears : ClientHears w.moment p.from p.to p.npdu c told next
  pub moment : v.moment ≡ w.moment
  pub clients : v.clients ≡ slice_set w.clients place next
  pub devices : v.devices ≡ w.devices
  pub keys : v.keys ≡ w.keys
  pub history : v.history ≡ outcomes_told (client_side.station_of c) w.moment w.keys told.outcomes w.history
  pub puts : Puts w v c.net told.said

-- a client issues a sound request, which isn't refused (5.4.4.1)
pub record ClientIssues {A : Type 0} (w v : PlainWorld A) : Type 0 where
  pub place : ℕ
  pub instance : ℕ
  pub request : Request A
  pub c : ClientState A
  pub next : ClientState A
  pub told : ClientIssued A
  pub there : slice_get w.clients place ≡ Some c
  pub sound : IsSoundRequest request
  pub free : refusal w.moment instance request c ≡ None
  pub issues : issuing.Issues w.moment instance request c told next
  pub moment : v.moment ≡ w.moment
  pub clients : v.clients ≡ slice_set w.clients place next
  pub devices : v.devices ≡ w.devices
  pub keys : v.keys ≡ w.keys ++ record { client = client_side.station_of c; invoke_id = told.invoke_id } ∷ []
  pub history : v.history ≡
      w.history ++ Issue (length w.keys) (client_side.station_of c) instance request w.moment ∷ []
  pub puts : Puts w v c.net told.said

-- a client asks who is there (16.10.1)
pub record ClientAsks {A : Type 0} (w v : PlainWorld A) : Type 0 where
  pub place : ℕ
  pub c : ClientState A
  pub limits : Option Limits
  pub there : slice_get w.clients place ≡ Some c
  pub moment : v.moment ≡ w.moment
  pub clients : v.clients ≡ w.clients
  pub devices : v.devices ≡ w.devices
  pub keys : v.keys ≡ w.keys
  pub history : v.history ≡ w.history
  pub puts : Puts w v c.net (who_is_parcel w.moment c.mac limits ∷ [])

-- a client wakes: its timers have expired (5.4.1, 5.4.4)
pub record ClientWakes {A : Type 0} (w v : PlainWorld A) : Type 0 where
  pub place : ℕ
  pub c : ClientState A
  pub there : slice_get w.clients place ≡ Some c
  pub moment : v.moment ≡ w.moment
  pub clients : v.clients ≡ slice_set w.clients place (awake w.moment c)
  pub devices : v.devices ≡ w.devices
  pub keys : v.keys ≡ w.keys
  pub history : v.history ≡ outcomes_told (client_side.station_of c) w.moment w.keys
      (client_waking.woken w.moment c.machine.open_ones).told w.history
  pub puts : Puts w v c.net (parcels_of w.moment c.mac (client_waking.woken w.moment c.machine.open_ones).said)

-- a device wakes: its timers have expired (5.4.1, 5.4.5)
pub record DeviceWakes {A : Type 0} (w v : PlainWorld A) : Type 0 where
  pub place : ℕ
  pub d : DeviceState A
  pub there : slice_get w.devices place ≡ Some d
  pub moment : v.moment ≡ w.moment
  pub clients : v.clients ≡ w.clients
  pub devices : v.devices ≡ slice_set w.devices place (record d {
    server = committed w.moment (server_waking.woken w.moment d.server.records).change d.server;
  })
  pub keys : v.keys ≡ w.keys
  pub history : v.history ≡ w.history
  pub puts : Puts w v d.net (told_of w.moment d.mac (told_of_plan (server_waking.woken w.moment d.server.records))).said

-- a device restarts, with the opening objects of its station
pub record DeviceRestarts {A : Type 0} (s : ObjectSite A) (w v : PlainWorld A) : Type 0 where
  pub place : ℕ
  pub d : DeviceState A
  pub there : slice_get w.devices place ≡ Some d
  pub moment : v.moment ≡ w.moment
  pub clients : v.clients ≡ w.clients
  pub devices : v.devices ≡
      slice_set w.devices place (restarts w.moment (s.opening (device_side.station_of d)) d)
  pub keys : v.keys ≡ w.keys
  pub history : v.history ≡ w.history ++ Restarted d.instance w.moment ∷ []
  pub puts : Puts w v d.net []

-- time passes
pub record TimePasses {A : Type 0} (w v : PlainWorld A) : Type 0 where
  pub n : ℕ
  pub moment : v.moment ≡ w.moment + n
  pub clients : v.clients ≡ w.clients
  pub devices : v.devices ≡ w.devices
  pub keys : v.keys ≡ w.keys
  pub history : v.history ≡ w.history
  pub puts : Puts w v 0 []

-- any other station, a node or a port passes something on (6.5, 9.3, J.4)
pub record SomethingPasses {A : Type 0} (w v : PlainWorld A) : Type 0 where
  pub moment : v.moment ≡ w.moment
  pub clients : v.clients ≡ w.clients
  pub devices : v.devices ≡ w.devices
  pub keys : v.keys ≡ w.keys
  pub history : v.history ≡ w.history
  pub said : v.said ≡ w.said
  pub grows : (t : Thing A) → Has v.things t → Has w.things t ⊎ PassesOn w.things t

-- what can come of an event: one of these, or several of them one after another
pub data PlainStep {A : Type 0} (s : ObjectSite A) (w v : PlainWorld A) : Type 0 where
  device_hears : DeviceHearsIt w v → PlainStep s w v
  client_hears : ClientHearsIt w v → PlainStep s w v
  client_issues : ClientIssues w v → PlainStep s w v
  client_asks : ClientAsks w v → PlainStep s w v
  client_wakes : ClientWakes w v → PlainStep s w v
  device_wakes : DeviceWakes w v → PlainStep s w v
  device_restarts : DeviceRestarts s w v → PlainStep s w v
  time_passes : TimePasses w v → PlainStep s w v
  something_passes : SomethingPasses w v → PlainStep s w v

abbrev pub ArePlainSteps : {A : Type 0} → ObjectSite A → List (PlainWorld A) → PlainWorld A → Type 0
ArePlainSteps s [] w = Unit {0}
ArePlainSteps s (v ∷ vs) w = PlainStep s w v × ArePlainSteps s vs v

abbrev pub last_world : {A : Type 0} → List (PlainWorld A) → PlainWorld A → PlainWorld A
last_world [] w = w
last_world (v ∷ vs) w = last_world vs v

-- steps lead from one world to another: what comes of an event, or of a list of events
pub record StepsTo {A : Type 0} (s : ObjectSite A) (w v : PlainWorld A) : Type 0 where
  pub between : List (PlainWorld A)
  pub steps : ArePlainSteps s between w
  pub last : v ≡ last_world between w
