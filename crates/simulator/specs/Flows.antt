-- Which events a flow gives, and how far it has gone: each ends.
use Rattle.std.specs.Prelude.{◌≡◌, ℕ, ◌+◌, ◌-◌, ◌*◌, ◌^◌, ◌<◌, List, [], ◌∷◌, Option, Some, None}
use Rattle.bus_traffic.specs.declared.telling.Telling.{Telling}
use Rattle.simulator.specs.declared.flow.Flow.{Flow}
use Rattle.simulator.specs.declared.flow.Part.{Part}
use Rattle.simulator.specs.declared.flow.Part.TheVariants.{Ticks, Delivers, Wakes}
use Rattle.world.specs.site_events.declared.event.Event.{Event}
use Rattle.world.specs.site_events.declared.event.Event.TheVariants as event

-- an event of a flow: a millisecond passes, what was put out is delivered or heard, or a station wakes
abbrev pub IsOfFlow : {A : Type 0} → Event A → Type 0
IsOfFlow (event.Tick n) = n ≡ 1
IsOfFlow (event.Deliver number) = Unit {0}
IsOfFlow (event.Hear network station octets) = Unit {0}
IsOfFlow (event.Wake station) = Unit {0}
IsOfFlow (event.Issue client instance request) = ⊥
IsOfFlow (event.WhoIs client limits) = ⊥
IsOfFlow (event.Restart station) = ⊥
IsOfFlow (event.Register station) = ⊥

-- for how many milliseconds an event asks
abbrev pub ticks_of : {A : Type 0} → Event A → ℕ
ticks_of (event.Tick n) = n
ticks_of e = 0

-- .. and events
abbrev pub ticks_in : {A : Type 0} → List (Event A) → ℕ
ticks_in [] = 0
ticks_in (e ∷ es) = ticks_of e + ticks_in es

-- what a flow gives: an event of it, for whose milliseconds there are fewer to go; or none where there are none to go
abbrev pub Gives : {A : Type 0} → (old new : Flow) → Option (Event A) → Type 0
Gives old new None = (old.left ≡ 0) × (new ≡ old)
Gives old new (Some e) = IsOfFlow e × (old.left ≡ new.left + ticks_of e)

-- an event of a flow, if there is one, at which no time passes (for private functions alone)
abbrev pub TakesNoTime : {A : Type 0} → Option (Event A) → Type 0
TakesNoTime None = Unit {0}
TakesNoTime (Some e) = IsOfFlow e × (ticks_of e ≡ 0)

-- what is left of the frames before so many: each is told at fewer than 2^64 ears
abbrev pub left_to_tell : Telling → (frames : ℕ) → ℕ
left_to_tell told frames = (frames - told.frames) * 2 ^ 64 + (2 ^ 64 - told.ear)

-- what is left of a millisecond: items and frames, and then stations, of which there are fewer than 2^64
abbrev pub left_in : Part → ℕ
left_in Ticks = 0
left_in (Delivers from before told frames) = 2 ^ 64 + ((before - from) + left_to_tell told frames)
left_in (Wakes from before) = before - from

-- what is left of a flow
abbrev pub left_of : Flow → ℕ
left_of f = f.left * 2 ^ 130 + left_in f.part

-- a flow that gave an event has less left than this
abbrev pub IsLess : {A : Type 0} → ℕ → Flow → Option (Event A) → Type 0
IsLess n f None = Unit {0}
IsLess n f (Some e) = left_of f < n
