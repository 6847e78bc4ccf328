-- How a world grows: its history, and what was said, at their ends alone.
use Rattle.std.specs.Prelude.{◌≡◌, ◌++◌, List}
use Rattle.simulator.specs.world.Step.{Steps}
use Rattle.simulator.specs.world.Straying.{Strays}
use Rattle.simulator.specs.world.World.{WorldState}
use Rattle.simulator.specs.world.site_events.declared.event.Event.{Event}
use Rattle.traffic.specs.declared.item.Item.{Item}

-- a list goes on behind another
pub record GoesOn {X : Type 0} (old new : List X) : Type 0 where
  pub more : List X
  pub is : new ≡ old ++ more

-- the history of a world goes on behind that of another, and so does what was said
pub record GrowsOn {A : Type 0} (w v : WorldState A) : Type 0 where
  pub history : GoesOn w.history v.history
  pub said : GoesOn w.said v.said

-- so it does by each event
abbrev pub EventsGoOn : Type 0 → Type 0
EventsGoOn A = (e : Event A) (w v : WorldState A) → Steps e w v → GrowsOn w v

-- .. and by each datagram from outside that is heard
abbrev pub StraysGoOn : Type 0 → Type 0
StraysGoOn A = (i : Item A) (w v : WorldState A) → Strays i w v → GrowsOn w v
