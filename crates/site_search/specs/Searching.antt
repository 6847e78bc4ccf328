-- What is written of a search behind a script at a site, as their texts describe them.
use Rattle.std.specs.Prelude.{◌≡◌, ◌≤◌, ℕ, List, [], ◌∷◌, ◌++◌, Some, length}
use Rattle.std.specs.Io.KnownBytes.{Appends}
use Rattle.std.specs.List.{AllByRecursion}
use Rattle.site_storm.specs.site_run.script.Numbers.{line_numbers}
use Rattle.site_storm.specs.site_run.script.declared.step.Step.{Step}
use Rattle.site_storm.specs.site_run.simulator.carry_world.Laws.{IsLegal}
use Rattle.site_storm.specs.site_run.simulator.Judged.{instances_of, judged_of}
use Rattle.site_storm.specs.site_run.simulator.world.site_ports.Ports.{Then}
use Rattle.site_storm.specs.site_run.simulator.world.Step.{IsSoundEvent, Steps}
use Rattle.site_storm.specs.site_run.simulator.world.World.{WorldState}
use Rattle.site_storm.specs.site_run.simulator.world.site_events.declared.event.Event.{Event}
use Rattle.site_storm.specs.site_run.site_history.Printed.{Known}
use Rattle.site_storm.specs.site_run.Running.{PrintsSteps, entries_in}
use Rattle.site_storm.specs.site_run.Simulate.{IsOpened}
use Rattle.site_search.specs.declared.searching.Found.{Found}
use Rattle.site_search.specs.declared.searching.Found.TheVariants.{Written, NoneWithin}
use Rattle.site_search.specs.Words.{HasNewEntry}
use Rattle.site_storm.specs.Lines.{end_missing, events_text}
use Rattle.site_storm.specs.words.printing.declared.spelling.Spelling.{Spelling}
use Rattle.site_storm.specs.words.printing.declared.spelling.Spelling.TheVariants.{Numbers}

-- events happened in a world, one after another, and none was refused
abbrev pub Happen : {A : Type 0} → List (Event A) → WorldState A → WorldState A → Type 0
Happen [] w v = v ≡ w
Happen (e ∷ es) w v = Then (Steps e w) (λ u. Happen es u v)

-- so many sound events, or fewer, happened in a world, and the history that is left, which is legal, has a new entry of
-- these words
pub record Leads {A : Type 0} (words : List ℕ) (depth : ℕ) (events : List (Event A)) (begun left : WorldState A) :
    Type 0 where
  pub few : length events ≤ depth
  pub sound : AllByRecursion IsSoundEvent events
  pub happen : Happen events begun left
  pub entry : HasNewEntry words (length begun.history) left
  pub legal : IsLegal (instances_of left.site) left.history (judged_of left)

-- a script is written, with the end that its last line lacks, and lines behind it
abbrev pub IsWritten : (script lines : List ℕ) → (old new : Known) → Type 0
IsWritten script lines old new = Appends old new (script ++ (end_missing script ++ lines))

-- nothing is written where there are no such events
abbrev pub WritesNothingIfNone : (old new : Known) → Found → Type 0
WritesNothingIfNone old new Written = Unit {0}
WritesNothingIfNone old new (NoneWithin depth) = new ≡ old

-- a script is written, and behind it events that lead to a new entry of these words, each on a line
pub record WritesFound {A : Type 0} (s : Spelling) (script words : List ℕ) (depth : ℕ) (begun : WorldState A)
    (old new : Known) : Type 0 where
  pub events : List (Event A)
  pub left : WorldState A
  pub leads : Leads words depth events begun left
  pub written : IsWritten script (events_text s events) old new

-- the steps of a script were taken in a world, one after another
pub record Begins {A : Type 0} (script : List ℕ) (steps : List (Step A)) (fresh begun : WorldState A) : Type 0 where
  pub printed : Known
  pub taken : PrintsSteps (entries_in Numbers) (line_numbers script) steps fresh begun (Some []) printed

-- .. and from there events lead to a new entry of these words
pub record Continues {A : Type 0} (s : Spelling) (script words : List ℕ) (depth : ℕ) (steps : List (Step A))
    (fresh : WorldState A) (old new : Known) : Type 0 where
  pub begun : WorldState A
  pub begins : Begins script steps fresh begun
  pub found : WritesFound s script words depth begun old new

-- the texts are those of a sound site and of a script, its steps were taken there, and from there events lead to a new
-- entry of these words
pub record Searches (A : Type 0) (s : Spelling) (site script words : List ℕ) (depth : ℕ) (old new : Known) :
    Type 0 where
  pub fresh : WorldState A
  pub steps : List (Step A)
  pub opened : IsOpened site script fresh steps
  pub continues : Continues s script words depth steps fresh old new
