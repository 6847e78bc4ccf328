-- What any number of turns leaves.
use Rattle.std.specs.Prelude.{◌≡◌, true, List, [], ◌∷◌, Option, Result}
use Rattle.std.specs.List.{AllByRecursion}
use Rattle.simulator.specs.Laws.{IsLed}
use Rattle.simulator.specs.Runs.{Runs}
use Rattle.simulator.specs.world.Keeping.{Keeps}
use Rattle.simulator.specs.world.Step.{IsSoundEvent, IsSoundIfAny}
use Rattle.simulator.specs.world.World.{WorldState}
use Rattle.simulator.specs.world.site_events.declared.event.Event.{Event}
use Rattle.simulator.specs.world_log.Growing.{WorldHistory}
use Rattle.tags.specs.declared.fault.Fault.{Fault}
use Rattle.wire.specs.Datagrams.{Datagram}
use Rattle.runner.specs.Runner.{RunnerState}
use Rattle.runner.specs.Turns.{IsTurn}
use Rattle.runner.specs.declared.turned.Turned.{Turned}
use Rattle.world_kept.specs.Deeds.{LeadsTo}
use Rattle.world_kept.specs.Kept.{IsKeptBehind}

-- a turn: what it is given, what the wire brings, and what it answers
pub record Turn (A : Type 0) : Type 0 where
  pub next : Option (Event A)
  pub latest : Option Datagram
  pub result : Result Turned Fault

-- one turn, and then others
pub record Then {A : Type 0} (First Rest : RunnerState A → Type 0) : Type 0 where
  pub middle : RunnerState A
  pub first : First middle
  pub rest : Rest middle

-- what turns leave, one after another
abbrev pub Turns : {A : Type 0} → List (Turn A) → (old new : RunnerState A) → Type 0
Turns [] old new = new ≡ old
Turns (t ∷ ts) old new = Then (λ r. IsTurn t.next t.latest old r t.result) (λ r. Turns ts r new)

-- a world came about from another by events alone
pub record AreEvents {A : Type 0} (w v : WorldState A) : Type 0 where
  pub events : List (Event A)
  pub sound : AllByRecursion IsSoundEvent events
  pub runs : Runs events w v

-- what any turns leave, whatever the wire brings, is what events leave, where no stray was heard, and nothing handed
-- out or forgotten
abbrev pub TurnsAreSteps : Type 0 → Type 0
TurnsAreSteps A = (ts : List (Turn A)) (old new : RunnerState A) → AllByRecursion (λ t. IsSoundIfAny t.next) ts →
    Turns ts old new → new.is_led ≡ true → new.is_whole ≡ true → AreEvents old.world new.world

-- .. and of what is kept of a world, with all its past: events led that on, and what the turns leave is kept of it
abbrev pub TurnsLead : Type 0 → Type 0
TurnsLead A = (ts : List (Turn A)) (past : WorldHistory A) (w : WorldState A) (old new : RunnerState A) →
    AllByRecursion (λ t. IsSoundIfAny t.next) ts → Turns ts old new → new.is_led ≡ true → IsLed w →
    Keeps past w old.world → LeadsTo past w new.world

-- .. whichever world it is kept of
abbrev pub TurnsKeep : Type 0 → Type 0
TurnsKeep A = (ts : List (Turn A)) (past : WorldHistory A) (old new : RunnerState A) →
    AllByRecursion (λ t. IsSoundIfAny t.next) ts → Turns ts old new → new.is_led ≡ true →
    IsKeptBehind past old.world → IsKeptBehind past new.world
