-- How far a flow has gone in which faults act.
use Rattle.std.specs.Prelude.{◌≡◌, ℕ, ◌+◌, ◌*◌, ◌<◌, Option, Some, None}
use Rattle.simulator.specs.Flows.{IsOfFlow, left_of, ticks_of}
use Rattle.simulator.specs.declared.flow.Flow.{Flow}
use Rattle.simulator.specs.world.Step.{IsSoundEvent}
use Rattle.simulator.specs.world.site_events.declared.event.Event.{Event}

-- how many milliseconds are to go, and a number that each event makes smaller
pub record FlowState : Type 0 where
  pub left : ℕ
  pub rest : ℕ

-- an event that comes once more
abbrev pub again_of : {A : Type 0} → Option (Event A) → ℕ
again_of None = 0
again_of (Some e) = 1

-- the state of a flow, with the event that comes once more, if one does
abbrev pub state_of : {A : Type 0} → Flow → Option (Event A) → FlowState
state_of f again = record { left = f.left; rest = 2 * left_of f + again_of again }

-- an event of a flow at which no time passes
pub record IsDelivery {A : Type 0} (e : Event A) : Type 0 where
  pub of_flow : IsOfFlow e
  pub no_time : ticks_of e ≡ 0
  pub sound : IsSoundEvent e

-- what comes once more is one
abbrev pub IsAgain : {A : Type 0} → Option (Event A) → Type 0
IsAgain None = Unit {0}
IsAgain (Some e) = IsDelivery e

-- what comes next is one, if anything does
abbrev pub IsDeliveryIfAny : {A : Type 0} → Option (Event A) → Type 0
IsDeliveryIfAny o = IsAgain o

-- what comes once more comes behind something
abbrev pub IsAgainBeside : {A : Type 0} → (again : Option (Event A)) → Option (Event A) → Type 0
IsAgainBeside again None = again ≡ None
IsAgainBeside again (Some e) = IsAgain again

-- what a flow gives: an event of it, for whose milliseconds there are fewer to go; or none where there are none to go
abbrev pub Gives : {A : Type 0} → (old new : FlowState) → Option (Event A) → Type 0
Gives old new None = (old.left ≡ 0) × (new.left ≡ 0)
Gives old new (Some e) = IsOfFlow e × (old.left ≡ new.left + ticks_of e)

-- a flow that gave an event has less left
abbrev pub IsLess : {A : Type 0} → (old new : FlowState) → Option (Event A) → Type 0
IsLess old new None = Unit {0}
IsLess old new (Some e) = new.rest < old.rest

-- what faults make of an event of a flow: nothing of a delivery, or an event for which the same time passes
abbrev pub IsTurn : {A : Type 0} → Event A → Option (Event A) → Type 0
IsTurn e None = ticks_of e ≡ 0
IsTurn e (Some f) = IsOfFlow f × (ticks_of f ≡ ticks_of e) × IsSoundEvent f
