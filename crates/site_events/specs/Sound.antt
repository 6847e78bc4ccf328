-- Which events may be asked for.
use Rattle.std.specs.Prelude.{Option, None, Some}
use Rattle.site_events.specs.declared.event.Event.{Event}
use Rattle.site_events.specs.declared.event.Event.TheVariants as event
use Rattle.primitives.specs.Sound.{IsSoundRequest}

-- the request of an event has a spelling, if it has one (12, 15)
abbrev pub IsSoundEvent : {A : Type 0} → Event A → Type 0
IsSoundEvent (event.Issue client instance request) = IsSoundRequest request
IsSoundEvent e = Unit {0}

abbrev pub IsSoundIfAny : {A : Type 0} → Option (Event A) → Type 0
IsSoundIfAny None = Unit {0}
IsSoundIfAny (Some e) = IsSoundEvent e
