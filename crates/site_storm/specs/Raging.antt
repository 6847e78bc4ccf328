-- So many events of a storm, one after another.
use Rattle.std.specs.Prelude.{◌≡◌, ℕ, List, length}
use Rattle.std.specs.Io.KnownBytes.{Appends}
use Rattle.std.specs.List.{AllByRecursion}
use Rattle.site_run.specs.simulator.world.Step.{IsSoundEvent}
use Rattle.site_run.specs.simulator.world.World.{WorldState}
use Rattle.site_run.specs.simulator.world.site_events.declared.event.Event.{Event}
use Rattle.site_run.specs.Running.{PrintsEvent, PrintsEvents, entries_in}
use Rattle.site_storm.specs.Lines.{Known, event_text, events_text, line}
use Rattle.words.specs.printing.declared.spelling.Spelling.{Spelling}
use Rattle.words.specs.printing.declared.spelling.Spelling.TheVariants.{Numbers}

-- a sound event was made or refused, what came of it is printed, and its line put down
pub record RagesOnce {A : Type 0} (s : Spelling) (w v : WorldState A) (lines_old lines_new old new : Known) :
    Type 0 where
  pub event : Event A
  pub sound : IsSoundEvent event
  pub printed : PrintsEvent (entries_in s) event w v old new
  pub put_down : Appends lines_old lines_new (line (event_text Numbers event))

-- so many sound events were made or refused, one after another, what came of each is printed, and its line put down
pub record Rages {A : Type 0} (s : Spelling) (steps : ℕ) (w v : WorldState A) (lines_old lines_new old new : Known) :
    Type 0 where
  pub events : List (Event A)
  pub many : length events ≡ steps
  pub sound : AllByRecursion IsSoundEvent events
  pub printed : PrintsEvents (entries_in s) events w v old new
  pub put_down : Appends lines_old lines_new (events_text Numbers events)
