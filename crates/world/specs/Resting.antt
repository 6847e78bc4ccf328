-- A wake at which nothing is due.
use Rattle.std.specs.Prelude.{ℕ}
use Rattle.site_events.specs.declared.event.Event.{Event}
use Rattle.site_events.specs.declared.event.Event.TheVariants as event
use Rattle.world_log.specs.site_node.Node.{NodeState}
use Rattle.world_log.specs.site_node.Steps.{IsQuiet}
use Rattle.world.specs.Doing.{HasRested}
use Rattle.world.specs.Refusals.{Of}
use Rattle.world.specs.Step.{AtName}
use Rattle.world.specs.World.{WorldState}

-- where nothing is due of a node, nothing was told or put out as it woke, and nothing but it has changed
abbrev pub RestsAt : {A : Type 0} → (w v : WorldState A) → (place : ℕ) → NodeState A → Type 0
RestsAt w v place n = IsQuiet w.moment n → HasRested w v place n

-- .. so at an event that is a wake (5.4.1, 6.6.2, 9.5.6)
abbrev pub RestsIfQuiet : {A : Type 0} → Event A → (w v : WorldState A) → Type 0
RestsIfQuiet (event.Wake station) w v = AtName station w (λ place. Of place w (RestsAt w v place))
RestsIfQuiet e w v = Unit {0}
