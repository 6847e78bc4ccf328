-- What is printed of the steps of a script, one after another.
use Rattle.std.specs.Prelude.{◌≡◌, ◌⊎◌, ◌<◌, ◌≤◌, ◌+◌, Bool, ℕ, List, [], ◌∷◌, ◌++◌, Option, None}
use Rattle.std.specs.Prelude.{drop, length, slice_get}
use Rattle.std.specs.Io.KnownBytes.{Appends}
use Rattle.std.specs.List.{AllByRecursion}
use Rattle.profile.specs.Times.{MAX_MOMENT_MS, MAX_TICK_MS}
use Rattle.script.specs.declared.step.Step.{Step}
use Rattle.script.specs.declared.step.Step.TheVariants as step
use Rattle.site_history.specs.simulator.Flows.{IsOfFlow, ticks_in}
use Rattle.site_history.specs.simulator.world.Refusals.{IsRefused}
use Rattle.site_history.specs.simulator.world.Step.{Steps}
use Rattle.site_history.specs.simulator.world.World.{WorldState}
use Rattle.site_history.specs.simulator.world.site_events.declared.event.Event.{Event}
pub use Rattle.site_history.specs.Printed.{Known}
use Rattle.site_history.specs.Asked.{refused_asked_text, refused_time_text, told_of}
use Rattle.site_history.specs.Printed.{entries_text, line, refused_text}
use Rattle.site_run.specs.Judged.{IsJudged}
use Rattle.site_run.specs.declared.running.Telling.{Telling}
use Rattle.site_run.specs.declared.running.Told.{Told}
use Rattle.site_run.specs.declared.running.Told.TheVariants as telling
use Rattle.site_states.specs.Shown.{PrintsShown}
use Rattle.site_trace.specs.Lines.{frames_text, items_text}
use Rattle.tags.specs.declared.fault.Fault.{Fault}
use Rattle.tags.specs.declared.fault.Fault.TheVariants.{Memory, NoSuch}
use Rattle.words.specs.printing.declared.spelling.Spelling.{Spelling}

-- entries alone are told, so spelled
abbrev pub entries_in : Spelling → Telling
entries_in s = record { told = telling.Entries; spelling = s; line = None }

-- all is told, so spelled
abbrev pub all_in : Spelling → Telling
all_in s = record { told = telling.All; spelling = s; line = None }

-- the same of what a line of a script asks for
abbrev pub at_line : Option ℕ → Telling → Telling
at_line l t = record { told = t.told; spelling = t.spelling; line = l }

-- what was put out behind so many items and frames
abbrev pub trace_text : {A : Type 0} → (items frames : ℕ) → WorldState A → List ℕ
trace_text items frames v =
    items_text v.site.stations items (drop items v.items) v.moment
    ++ frames_text v.site.stations frames v.buses.buses v.moment

-- .. where it is told
abbrev pub told : {A : Type 0} → Told → (items frames : ℕ) → WorldState A → List ℕ
told telling.Entries items frames v = []
told telling.All items frames v = trace_text items frames v

-- all behind so many items, frames and entries is printed
pub record PrintsGrowth {A : Type 0} (t : Telling) (items frames entries : ℕ) (v : WorldState A) (old new : Known) :
    Type 0 where
  pub at_entries : Known
  pub trace_printed : Appends old at_entries (told t.told items frames v)
  pub entries_printed : Appends at_entries new
      (entries_text t.spelling v.site.stations v.history (drop entries v.history))

-- an event was made, and all that came of it is printed
pub record PrintsMade {A : Type 0} (t : Telling) (e : Event A) (w v : WorldState A) (old new : Known) : Type 0 where
  pub made : Steps e w v
  pub growth : PrintsGrowth t (length w.items) w.buses.frames (length w.history) v old new

-- it was refused and changed nothing, and that is printed
pub record PrintsRefused {A : Type 0} (t : Telling) (e : Event A) (w v : WorldState A) (old new : Known) :
    Type 0 where
  pub fault : Fault
  pub refused : IsRefused e w fault
  pub same : v ≡ w
  pub printed : Appends old new (line (refused_asked_text (told_of t.spelling t.line e) fault w.moment))

-- an event happened or was refused
abbrev pub PrintsEvent : {A : Type 0} → Telling → Event A → WorldState A → WorldState A → Known → Known → Type 0
PrintsEvent t e w v old new = PrintsMade t e w v old new ⊎ PrintsRefused t e w v old new

-- one thing happened and is printed, and then others
pub record Then {A : Type 0} (First Rest : WorldState A → Known → Type 0) : Type 0 where
  pub middle : WorldState A
  pub at_middle : Known
  pub first : First middle at_middle
  pub rest : Rest middle at_middle

-- so did these events, one after another
abbrev pub PrintsEvents : {A : Type 0} → Telling → List (Event A) → WorldState A → WorldState A → Known → Known → Type 0
PrintsEvents t [] w v old new = (v ≡ w) × (new ≡ old)
PrintsEvents t (e ∷ es) w v old new = Then (λ u at. PrintsEvent t e w u old at) (λ u at. PrintsEvents t es u v at new)

-- nothing happened where so many milliseconds were asked for, and that refusal is printed
pub record PrintsNothing {A : Type 0} (t : Telling) (n : ℕ) (fault : Fault) (w v : WorldState A) (old new : Known) :
    Type 0 where
  pub same : v ≡ w
  pub printed : Appends old new (line (refused_time_text t.spelling t.line n fault w.moment))

-- so did events of a flow, one after another, that ask for so many milliseconds in all; these pass, but not beyond the
-- greatest moment
pub record PrintsTicks {A : Type 0} (t : Telling) (n : ℕ) (w v : WorldState A) (old new : Known) : Type 0 where
  pub events : List (Event A)
  pub of_flow : AllByRecursion IsOfFlow events
  pub ticks : ticks_in events ≡ n
  pub printed : PrintsEvents t events w v old new
  pub passes : w.moment + n ≤ MAX_MOMENT_MS → v.moment ≡ w.moment + n

-- a flow was cut short: there was no memory for its next event, and that is printed
pub record PrintsShort {A : Type 0} (t : Telling) (n : ℕ) (w v : WorldState A) (old new : Known) : Type 0 where
  pub passed : ℕ
  pub few : passed ≤ n
  pub printed : Then (λ u at. PrintsTicks t passed w u old at) (λ u at. PrintsNothing t n Memory u v at new)

-- a flow came to its end with the last of its milliseconds, or was cut short
abbrev pub PrintsAll : {A : Type 0} → Telling → (n : ℕ) → WorldState A → WorldState A → Known → Known → Type 0
PrintsAll t n w v old new = PrintsTicks t n w v old new ⊎ PrintsShort t n w v old new

-- a flow of 1 to 60000 ms
pub record PrintsFlow {A : Type 0} (t : Telling) (n : ℕ) (w v : WorldState A) (old new : Known) : Type 0 where
  pub least : 1 ≤ n
  pub most : n ≤ MAX_TICK_MS
  pub all : PrintsAll t n w v old new

-- a flow of so many milliseconds is none
pub record PrintsNoFlow {A : Type 0} (t : Telling) (n : ℕ) (w v : WorldState A) (old new : Known) : Type 0 where
  pub outside : (n < 1) ⊎ (MAX_TICK_MS < n)
  pub refused : PrintsNothing t n NoSuch w v old new

-- a fault of the network changes nothing by itself, and nothing is printed of it but that there is no memory for it
pub record PrintsDisturbed {A : Type 0} (w v : WorldState A) (old new : Known) : Type 0 where
  pub same : v ≡ w
  pub printed : (new ≡ old) ⊎ Appends old new (line (refused_text Memory w.moment))

-- a step of a script was taken; which events a flow has by faults of the network, no contract says
abbrev pub PrintsStep : {A : Type 0} → Telling → Step A → WorldState A → WorldState A → Known → Known → Type 0
PrintsStep t (step.Happens e) w v old new = PrintsEvent t e w v old new
PrintsStep t (step.Flow n) w v old new = PrintsFlow t n w v old new ⊎ PrintsNoFlow t n w v old new
PrintsStep t (step.Disturbs f) w v old new = PrintsDisturbed w v old new
PrintsStep t (step.Expects e) w v old new = (v ≡ w) × (new ≡ old)
PrintsStep t (step.Shows name) w v old new = (v ≡ w) × PrintsShown name w old new

-- so were these steps, one after another, which lines of a script ask for that have these numbers
abbrev pub PrintsSteps : {A : Type 0} → Telling → (lines : List ℕ) → List (Step A) → WorldState A → WorldState A →
    Known → Known → Type 0
PrintsSteps t ls [] w v old new = (v ≡ w) × (new ≡ old)
PrintsSteps t ls (s ∷ ss) w v old new =
    Then (λ u at. PrintsStep (at_line (slice_get ls 0) t) s w u old at)
    (λ u at. PrintsSteps t (drop 1 ls) ss u v at new)

-- a step was taken, and whether an expectation is unmet so far: an expectation is judged
abbrev pub TakesStep : {A : Type 0} → Telling → Step A → (was now : Bool) → WorldState A → WorldState A → Known →
    Known → Type 0
TakesStep t (step.Happens e) was now w v old new = PrintsStep t (step.Happens e) w v old new × (now ≡ was)
TakesStep t (step.Flow n) was now w v old new = PrintsStep t (step.Flow n) w v old new × (now ≡ was)
TakesStep t (step.Disturbs f) was now w v old new = PrintsStep t (step.Disturbs f) w v old new × (now ≡ was)
TakesStep t (step.Shows name) was now w v old new = PrintsStep t (step.Shows name) w v old new × (now ≡ was)
TakesStep t (step.Expects e) was now w v old new = PrintsStep t (step.Expects e) w v old new × IsJudged e w was now

-- one step was taken and is printed, and then others
pub record ThenTakes {A : Type 0} (First Rest : WorldState A → Bool → Known → Type 0) : Type 0 where
  pub middle : WorldState A
  pub so_far : Bool
  pub at_middle : Known
  pub first : First middle so_far at_middle
  pub rest : Rest middle so_far at_middle

-- steps were taken, one after another, which lines of a script ask for that have these numbers, and whether an
-- expectation is unmet
abbrev pub TakesSteps : {A : Type 0} → Telling → (lines : List ℕ) → List (Step A) → (was now : Bool) → WorldState A →
    WorldState A → Known → Known → Type 0
TakesSteps t ls [] was now w v old new = (v ≡ w) × (new ≡ old) × (now ≡ was)
TakesSteps t ls (s ∷ ss) was now w v old new =
    ThenTakes (λ u so_far at. TakesStep (at_line (slice_get ls 0) t) s was so_far w u old at)
    (λ u so_far at. TakesSteps t (drop 1 ls) ss so_far now u v at new)
