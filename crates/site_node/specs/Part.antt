-- What a node does by its kind: what it says, executes and tells, and what goes down over its ports (5.4, 6.6).
use Rattle.std.specs.Prelude.{◌≡◌, ℕ, Bool, true, List, [], ◌∷◌, Option, Some, None}
use Rattle.apdu.specs.declared.unconfirmed.Limits.{Limits}
use Rattle.bbmd_manager.specs.State as manager
use Rattle.client.specs.Client.{ClientState}
use Rattle.client.specs.ClientTold.{ClientTold}
use Rattle.client.specs.Hearing.{BringsTooMany, ClientHears}
use Rattle.client.specs.Issuing as issuing
use Rattle.client.specs.Issuing.{refusal}
use Rattle.client.specs.Plan as client
use Rattle.client.specs.Saying as client_saying
use Rattle.client.specs.Saying.{who_is_parcel}
use Rattle.client.specs.client_tsm.Client as client_tsm
use Rattle.client.specs.client_tsm.Steps as client_tsm_steps
use Rattle.client.specs.client_tsm.Waking as client_waking
use Rattle.device.specs.Device.{DeviceState, restarts}
use Rattle.device.specs.DeviceTold.{DeviceTold}
use Rattle.device.specs.Hearing.{DeviceHears}
use Rattle.device.specs.Plan as device
use Rattle.device.specs.Saying as device_saying
use Rattle.device.specs.server_tsm.Server as server_tsm
use Rattle.device.specs.server_tsm.Steps as server_tsm_steps
use Rattle.device.specs.server_tsm.Waking as server_waking
use Rattle.npdu.specs.declared.mac.Station.{Station}
use Rattle.npdu.specs.declared.parcel.Parcel.{Parcel}
use Rattle.object_model.specs.Objects.{PlainTable}
use Rattle.primitives.specs.declared.plain_data.Request.{Request}
use Rattle.router.specs.Hearing.{IsOverfull, RouterHears}
use Rattle.router.specs.Messages.{announced}
use Rattle.router.specs.Plan as router
use Rattle.router.specs.Router.{woken}
use Rattle.router.specs.declared.plan.PortParcel.{PortParcel}
use Rattle.site_node.specs.declared.part.Part.{Part}
use Rattle.site_node.specs.declared.part.Part.TheVariants.{Device, Client, Router, Manager}
use Rattle.site_node.specs.declared.plan.PartPlan.{PartPlan}
use Rattle.site_node.specs.declared.plan.PartPlan.TheVariants as plan
use Rattle.site_node.specs.declared.told.PartTold.{PartTold}
use Rattle.site_ports.specs.Ports.{over}
use Rattle.tags.specs.declared.fault.Fault.{Fault}
use Rattle.tags.specs.declared.fault.Fault.TheVariants.{NoSuch, TableFull}

-- the port over which a device or a client says what it says
abbrev pub ITS_PORT : ℕ
ITS_PORT = 0

-- nothing is said, executed or told
abbrev pub silence : {A : Type 0} → PartTold A
silence = record { said = []; executed = None; outcomes = [] }

-- this is said, and nothing executed or told
abbrev pub says : {A : Type 0} → List (Parcel A) → PartTold A
says ps = record { said = ps; executed = None; outcomes = [] }

-- what a device tells; it has no outcomes
abbrev pub by_device : {A : Type 0} → DeviceTold A → PartTold A
by_device t = record { said = t.said; executed = t.executed; outcomes = [] }

-- what a client tells; it executes nothing
abbrev pub by_client : {A : Type 0} → ClientTold A → PartTold A
by_client t = record { said = t.said; executed = None; outcomes = t.outcomes }

-- what a plan tells: a router and a manager pass on, and say nothing that an application entity would (6.6, J.4)
abbrev pub told_by : {A : Type 0} → PartPlan A → PartTold A
told_by (plan.Device p) = by_device (device.told_by p)
told_by (plan.Client p) = by_client (client.told_by p)
told_by (plan.Says said) = says said
told_by p = silence

-- what goes down of a plan, and over which port
abbrev pub downs_of : {A : Type 0} → PartPlan A → List (PortParcel A)
downs_of (plan.Device p) = over ITS_PORT p.said
downs_of (plan.Client p) = over ITS_PORT p.said
downs_of (plan.Says said) = over ITS_PORT said
downs_of (plan.Router p) = p.out
downs_of p = []

-- a node's part as a plan that is carried out at this moment leaves it
abbrev pub left_by : {A : Type 0} → ℕ → PartPlan A → Part A → Part A
left_by now (plan.Device p) (Device d) = Device (device.left_by now p d)
left_by now (plan.Client p) (Client c) = Client (client.left_by now p c)
left_by now (plan.Router p) (Router r) = Router (router.left_by now p r)
left_by now (plan.Manages m) (Manager net old) = Manager net m
left_by now plan.Forgets (Manager net m) = Manager net (manager.woken now m)
left_by now (plan.Restarts opening) (Device d) = Device (restarts now opening d)
left_by now p part = part

abbrev pub IsPlannedOf : {A : Type 0} → ℕ → PartPlan A → Part A → Type 0
IsPlannedOf now (plan.Device p) (Device d) = device.IsPlanned now d p
IsPlannedOf now (plan.Device p) part = ⊥
IsPlannedOf now (plan.Client p) (Client c) = client.IsPlanned now c p
IsPlannedOf now (plan.Client p) part = ⊥
IsPlannedOf now p part = Unit {0}

-- a plan was made at this moment of this part
abbrev pub IsPlanned : {A : Type 0} → ℕ → Part A → PartPlan A → Type 0
IsPlanned now part p = IsPlannedOf now p part

-- a device hears a message (5.4.5, 16.10.2)
pub record OfDevice {A : Type 0} (now : ℕ) (p : Parcel A) (d : DeviceState A) (told : PartTold A)
    (downs : List (PortParcel A)) (left : DeviceState A) : Type 0 where
  pub by : DeviceTold A
  pub told_is : told ≡ by_device by
  pub downs_are : downs ≡ over ITS_PORT by.said
  pub hears : DeviceHears now p.from p.to p.npdu d by left

-- a client hears a message (5.4.4, 16.10.3)
pub record OfClient {A : Type 0} (now : ℕ) (p : Parcel A) (c : ClientState A) (told : PartTold A)
    (downs : List (PortParcel A)) (left : ClientState A) : Type 0 where
  pub by : ClientTold A
  pub told_is : told ≡ by_client by
  pub downs_are : downs ≡ over ITS_PORT by.said
  pub hears : ClientHears now p.from p.to p.npdu c by left

-- what a part does of a message that comes up on a port: what it tells, what goes down over which port, and what it is
-- then; a manager, which has no port, does nothing of it
abbrev pub PartHears : {A : Type 0} → (now port : ℕ) → Parcel A → Part A → PartTold A → List (PortParcel A) → Part A →
    Type 0
PartHears now port p (Device d) told downs (Device left) = OfDevice now p d told downs left
PartHears now port p (Client c) told downs (Client left) = OfClient now p c told downs left
PartHears now port p (Router r) told downs (Router left) = (told ≡ silence) × RouterHears now port p r downs left
PartHears now port p (Manager net m) told downs left = (told ≡ silence) × (downs ≡ []) × (left ≡ Manager net m)
PartHears now port p part told downs left = ⊥

-- why a part refuses a message: a client has no place for one more binding (16.10.3), a router none for one more route
-- (6.6.3.3)
abbrev pub RefusesMessage : {A : Type 0} → (port : ℕ) → Parcel A → Part A → Type 0
RefusesMessage port p (Client c) = BringsTooMany c.net p.from p.to p.npdu c.bindings
RefusesMessage port p (Router r) = IsOverfull port p r
RefusesMessage port p part = ⊥

-- what a part tells where it wakes: its timers have expired (5.4.1)
abbrev pub told_awake : {A : Type 0} → ℕ → Part A → PartTold A
told_awake now (Device d) = by_device
    (device_saying.told_of now d.mac (server_tsm_steps.told_of_plan (server_waking.woken now d.server.records)))
told_awake now (Client c) = by_client
    (client_saying.told_of now c.mac (client_tsm_steps.told_of_plan (client_waking.woken now c.machine.open_ones)))
told_awake now part = silence

-- .. what goes down then: a router names its networks at its first wake (6.6.2)
abbrev pub downs_awake : {A : Type 0} → ℕ → Part A → List (PortParcel A)
downs_awake now (Router r) = announced now r
downs_awake now part = over ITS_PORT (told_awake now part).said

-- .. and what it is then: a manager forgets the registrations that have ended (J.5.2.3)
abbrev pub awake : {A : Type 0} → ℕ → Part A → Part A
awake now (Device d) = Device (record d {
  server = server_tsm.committed now (server_waking.woken now d.server.records).change d.server;
})
awake now (Client c) = Client (record c {
  machine = client_tsm.committed now (client_waking.woken now c.machine.open_ones).change c.machine;
})
awake now (Router r) = Router (woken now r)
awake now (Manager net m) = Manager net (manager.woken now m)

-- nothing is due of a part where it wakes: none of its timers expires (5.4.1), a router has woken before (6.6.2); of a
-- manager nothing ever is
abbrev pub is_quiet : {A : Type 0} → ℕ → Part A → Bool
is_quiet now (Device d) = server_waking.is_quiet now d.server.records
is_quiet now (Client c) = client_waking.is_quiet now c.machine.open_ones
is_quiet now (Router r) = r.woken
is_quiet now (Manager net m) = true

-- a client issues a request to the device of an instance, under an invoke ID (5.4.4.1)
pub record IssuesIt {A : Type 0} (now instance : ℕ) (request : Request A) (c : ClientState A) (id : ℕ)
    (told : PartTold A) (left : ClientState A) : Type 0 where
  pub told_is : told ≡ says told.said
  pub free : refusal now instance request c ≡ None
  pub issues : issuing.Issues now instance request c (record { invoke_id = id; said = told.said }) left

abbrev pub PartIssues : {A : Type 0} → ℕ → (instance : ℕ) → Request A → Part A → ℕ → PartTold A → Part A → Type 0
PartIssues now instance request (Client c) id told (Client left) = IssuesIt now instance request c id told left
PartIssues now instance request part id told left = ⊥

-- a part asks who is there: a client says a Who-Is, and stays as it was (16.10.1)
abbrev pub PartAsks : {A : Type 0} → ℕ → Option Limits → Part A → PartTold A → Part A → Type 0
PartAsks now limits (Client c) told left =
    (told ≡ says (who_is_parcel now c.mac limits ∷ [])) × (left ≡ Client c)
PartAsks now limits part told left = ⊥

-- a part restarts with these objects: a device, and it says nothing (12)
abbrev pub PartRestarts : {A : Type 0} → ℕ → PlainTable A → Part A → PartTold A → Part A → Type 0
PartRestarts now opening (Device d) told left = (told ≡ silence) × (left ≡ Device (restarts now opening d))
PartRestarts now opening part told left = ⊥

-- a part is a client
abbrev pub IsClient : {A : Type 0} → Part A → Type 0
IsClient (Client c) = Unit {0}
IsClient part = ⊥

-- a part is a device
abbrev pub IsDevice : {A : Type 0} → Part A → Type 0
IsDevice (Device d) = Unit {0}
IsDevice part = ⊥

-- .. no client
abbrev pub IsNoClient : {A : Type 0} → Part A → Type 0
IsNoClient (Client c) = ⊥
IsNoClient part = Unit {0}

-- .. no device
abbrev pub IsNoDevice : {A : Type 0} → Part A → Type 0
IsNoDevice (Device d) = ⊥
IsNoDevice part = Unit {0}

-- nothing is said of a plan, and none is a device's or a client's at an input: for private functions alone
abbrev pub IsSilent : {A : Type 0} → PartPlan A → Type 0
IsSilent (plan.Device p) = ⊥
IsSilent (plan.Client p) = ⊥
IsSilent (plan.Says said) = ⊥
IsSilent p = Unit {0}

-- why an issue is refused: a part that is no client, else the first that holds of the client (5.4.4.1)
abbrev pub issue_refusal : {A : Type 0} → ℕ → (instance : ℕ) → Request A → Part A → Option Fault
issue_refusal now instance request (Client c) = refusal now instance request c
issue_refusal now instance request part = Some NoSuch
