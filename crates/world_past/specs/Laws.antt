-- What is said of the whole past by what is kept.
use Rattle.std.specs.Prelude.{[]}
use Rattle.world.specs.Laws.{Stands}
use Rattle.world.specs.Step.{Happens, Steps}
use Rattle.world.specs.World.{WorldState}
use Rattle.world.specs.site_events.declared.event.Event.{Event}
use Rattle.world.specs.declared.happening.Happening.{Happening}
use Rattle.world.specs.site_ports.Ports.{Then}
use Rattle.world.specs.world_log.Growing.{WorldHistory}
use Rattle.world.specs.Keeping.{Keeps}

-- a world keeps itself, where nothing was handed out
abbrev pub KeepsAll : Type 0 → Type 0
KeepsAll A = (w : WorldState A) → Keeps [] w w

-- what is kept of what is kept is kept of the whole
abbrev pub KeepsOn : Type 0 → Type 0
KeepsOn A = (past : WorldHistory A) (w u k : WorldState A) → Keeps past w u → Keeps [] u k → Keeps past w k

-- what happens at a place of what is kept happens to the whole, and of what it leaves there this is kept
abbrev pub HappensToAll : Type 0 → Type 0
HappensToAll A = (h : Happening A) (past : WorldHistory A) (w k l : WorldState A) → Keeps past w k → Happens h k l →
    Then (Happens h w) (λ v. Keeps past v l)

-- .. and so does an event by names
abbrev pub StepsInAll : Type 0 → Type 0
StepsInAll A = (e : Event A) (past : WorldHistory A) (w k l : WorldState A) → Keeps past w k → Steps e k l →
    Then (Steps e w) (λ v. Keeps past v l)

-- where what is kept stands, the whole does
abbrev pub StandsInAll : Type 0 → Type 0
StandsInAll A = (past : WorldHistory A) (w k : WorldState A) → Keeps past w k → Stands k → Stands w
