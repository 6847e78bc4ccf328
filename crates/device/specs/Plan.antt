-- What a device would do, before anything changes.
use Rattle.std.specs.Prelude.{ℕ, Option, Some, None, IfSome}
use Rattle.server_tsm.specs.server_answers.Plan.{ServerPlan}
use Rattle.server_tsm.specs.server_answers.Executed.{Executed}
use Rattle.server_tsm.specs.Server.{committed}
use Rattle.server_tsm.specs.Steps as server
use Rattle.device.specs.Device.{DeviceState}
use Rattle.device.specs.declared.plan.DevicePlan.{DevicePlan}
use Rattle.device.specs.DeviceTold.{DeviceTold}

-- the request that its server executes, where the server does something
abbrev pub executed_of : {A : Type 0} → Option (ServerPlan A) → Option (Executed A)
executed_of None = None
executed_of (Some plan) = plan.executed

-- what a plan says and executes
abbrev pub told_by : {A : Type 0} → DevicePlan A → DeviceTold A
told_by p = record { said = p.said; executed = executed_of p.server }

-- the device as its server leaves it, where that does something; else as it was
abbrev pub left_of : {A : Type 0} → ℕ → Option (ServerPlan A) → DeviceState A → DeviceState A
left_of now None d = d
left_of now (Some plan) d = record d { server = committed now plan.change d.server }

-- the device as a plan that is carried out at this moment leaves it
abbrev pub left_by : {A : Type 0} → ℕ → DevicePlan A → DeviceState A → DeviceState A
left_by now p d = left_of now p.server d

-- a plan changes something, or may: its server does something
abbrev pub ChangesSomething : {A : Type 0} → Option (ServerPlan A) → Type 0
ChangesSomething None = ⊥
ChangesSomething (Some plan) = Unit {0}

-- a plan was made at this moment in this state: its server's was
abbrev pub IsPlanned : {A : Type 0} → ℕ → DeviceState A → DevicePlan A → Type 0
IsPlanned now d p = IfSome p.server (server.IsPlanned now d.server)
