-- What is done with a world that forgets, one thing after another, and what comes of the whole.
use Rattle.std.specs.Prelude.{◌≡◌, ◌++◌, List, [], ◌∷◌}
use Rattle.std.specs.List.{AllByRecursion}
use Rattle.simulator.specs.Laws.{IsLed}
use Rattle.simulator.specs.Runs.{Runs}
use Rattle.simulator.specs.world.Keeping.{Forgets, Keeps, handed_out}
use Rattle.simulator.specs.world.Refusals.{Comes}
use Rattle.simulator.specs.world.Step.{IsSoundEvent}
use Rattle.simulator.specs.world.World.{WorldState}
use Rattle.simulator.specs.world.site_events.declared.event.Event.{Event}
use Rattle.simulator.specs.world.site_ports.Ports.{Then}
use Rattle.simulator.specs.world_log.Growing.{WorldHistory}
use Rattle.world_kept.specs.Kept.{BringsToAll}

-- a thing that is done: a sound event is made, or refused; all entries that are kept are handed out; or something is
-- forgotten
pub data Deed (A : Type 0) : Type 0 where
  Make : Event A → Deed A
  HandOut : Deed A
  Forget : Deed A

-- an event was made, or refused, where all stand
pub record IsMade {A : Type 0} (e : Event A) (k l : WorldState A) : Type 0 where
  pub sound : IsSoundEvent e
  pub comes : Comes e k l
  pub brings : BringsToAll e k

-- it was done
abbrev pub IsDone : {A : Type 0} → Deed A → (k l : WorldState A) → Type 0
IsDone (Make e) k l = IsMade e k l
IsDone HandOut k l = l ≡ handed_out k
IsDone Forget k l = Forgets k l

-- these were done, one after another
abbrev pub AreDone : {A : Type 0} → List (Deed A) → (k l : WorldState A) → Type 0
AreDone [] k l = l ≡ k
AreDone (d ∷ ds) k l = Then (IsDone d k) (λ m. AreDone ds m l)

-- .. by which these entries were handed out, in their order
module _ {A : Type 0} where
  abbrev pub handed_by : (ds : List (Deed A)) (k l : WorldState A) → AreDone ds k l → WorldHistory A
  handed_by [] k l done = []
  handed_by (Make e ∷ ds) k l done = handed_by ds done.middle l done.rest
  handed_by (HandOut ∷ ds) k l done = k.history ++ handed_by ds done.middle l done.rest
  handed_by (Forget ∷ ds) k l done = handed_by ds done.middle l done.rest

-- sound events alone led from a world to another, and this is kept of that, where these entries were handed out
pub record LeadsTo {A : Type 0} (past : WorldHistory A) (w k : WorldState A) : Type 0 where
  pub whole : WorldState A
  pub events : List (Event A)
  pub sound : AllByRecursion IsSoundEvent events
  pub runs : Runs events w whole
  pub led : IsLed whole
  pub keeps : Keeps past whole k

-- whatever is done with what is kept of a world that events alone led to, events alone lead that on
abbrev pub DeedsLead : Type 0 → Type 0
DeedsLead A = (ds : List (Deed A)) (past : WorldHistory A) (w k l : WorldState A) → IsLed w → Keeps past w k →
    (done : AreDone ds k l) → LeadsTo (past ++ handed_by ds k l done) w l
