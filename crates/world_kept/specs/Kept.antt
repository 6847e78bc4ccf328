-- What is kept of a world that events alone led to.
use Rattle.std.specs.Prelude.{[], ◌++◌}
use Rattle.simulator.specs.Heard.{HasBrought}
use Rattle.simulator.specs.Judged.{instances_of, judged_of}
use Rattle.simulator.specs.Laws.{IsLed}
use Rattle.simulator.specs.carry_world.Laws.{IsLegal}
use Rattle.simulator.specs.world.Keeping.{Forgets, Keeps, handed_out}
use Rattle.simulator.specs.world.Laws.{Stands}
use Rattle.simulator.specs.world.Step.{IsSoundEvent, Steps}
use Rattle.simulator.specs.world.World.{WorldState}
use Rattle.simulator.specs.world.site_events.declared.event.Event.{Event}
use Rattle.simulator.specs.world_log.Growing.{WorldHistory}

-- this is kept of a world, with all its past, that events alone led to, where these entries were handed out
pub record IsKeptBehind {A : Type 0} (past : WorldHistory A) (k : WorldState A) : Type 0 where
  pub whole : WorldState A
  pub led : IsLed whole
  pub keeps : Keeps past whole k

-- .. whichever were handed out
pub record IsKept {A : Type 0} (k : WorldState A) : Type 0 where
  pub past : WorldHistory A
  pub behind : IsKeptBehind past k

-- these entries are a legal history of the devices of a world (5.4)
abbrev pub IsLegalOf : {A : Type 0} → WorldHistory A → WorldState A → Type 0
IsLegalOf h k = IsLegal (instances_of k.site) h (judged_of k)

-- .. or are the end of one
pub record EndsLegal {A : Type 0} (h : WorldHistory A) (k : WorldState A) : Type 0 where
  pub before : WorldHistory A
  pub legal : IsLegalOf (before ++ h) k

-- what an event brings in each world that events alone led to and of which this is kept was said, issued and whole; and
-- events alone led to what it leaves there
pub record BringsToAll {A : Type 0} (e : Event A) (k : WorldState A) : Type 0 where
  pub brought : (past : WorldHistory A) (w v : WorldState A) → IsLed w → Keeps past w k → Steps e w v →
      HasBrought e w v
  pub led : (past : WorldHistory A) (w v : WorldState A) → IsLed w → Keeps past w k → Steps e w v → IsLed v

-- a world that events alone led to is kept of itself
abbrev pub LedIsKept : Type 0 → Type 0
LedIsKept A = (w : WorldState A) → IsLed w → IsKeptBehind [] w

-- the entries that were handed out and those that are kept are legal
abbrev pub KeptIsLegal : Type 0 → Type 0
KeptIsLegal A = (past : WorldHistory A) (k : WorldState A) → IsKeptBehind past k → IsLegalOf (past ++ k.history) k

-- what each sound event brings, where all stand
abbrev pub EventsBring : Type 0 → Type 0
EventsBring A = (e : Event A) (k : WorldState A) → IsSoundEvent e → Stands k → BringsToAll e k

-- what an event leaves is kept still
abbrev pub EventsKeep : Type 0 → Type 0
EventsKeep A = (e : Event A) (past : WorldHistory A) (k l : WorldState A) → BringsToAll e k → IsKeptBehind past k →
    Steps e k l → IsKeptBehind past l

-- .. what is left where entries are handed out
abbrev pub HandingOutKeeps : Type 0 → Type 0
HandingOutKeeps A = (past : WorldHistory A) (k : WorldState A) → IsKeptBehind past k →
    IsKeptBehind (past ++ k.history) (handed_out k)

-- .. and what is left where something is forgotten
abbrev pub ForgettingKeeps : Type 0 → Type 0
ForgettingKeeps A = (past : WorldHistory A) (k l : WorldState A) → IsKeptBehind past k → Forgets k l →
    IsKeptBehind past l
