-- Events of a storm, one after another.
use Rattle.std.proofs.Common.{◌≡◌, ℕ, ◌+◌, List, [], ◌∷◌, length, refl, sym, arith}
use Rattle.std.specs.Io.KnownBytes.{Appends}
use Rattle.std.specs.List.{AllByRecursion}
use Rattle.site_run.specs.simulator.world.Step.{IsSoundEvent}
use Rattle.site_run.specs.simulator.world.World.{WorldState}
use Rattle.site_run.specs.simulator.world.site_events.declared.event.Event.{Event}
use Rattle.site_run.specs.Running.{Known, PrintsEvents, entries_in}
use Rattle.site_run.proofs.RunLaws.{event_before}
use Rattle.site_trace.proofs.TraceLaws.{appends_more, appends_nothing}
use Rattle.site_storm.specs.Lines.{event_text, events_text, line}
use Rattle.site_storm.specs.Raging.{Rages, RagesOnce}
use Rattle.words.specs.printing.declared.spelling.Spelling.{Spelling}
use Rattle.words.specs.printing.declared.spelling.Spelling.TheVariants.{Numbers}

-- one more
pub longer : {X : Type 0} (x : X) (xs : List X) (left rest : ℕ) → left ≡ rest + 1 → length xs ≡ rest →
    length (x ∷ xs) ≡ left
longer x xs left rest one many = omega (arith, one, many)

module _ {A : Type 0} where
  -- what so many more events lead to, all lead to
  abbrev pub LeadsOn : (s : Spelling) (steps left : ℕ) (w u : WorldState A) (lines_old lines_at old at : Known) → Type 0
  LeadsOn s steps left w u lines_old lines_at old at =
      (events : List (Event A)) (v : WorldState A) (lines_new new : Known) → length events ≡ left →
      AllByRecursion IsSoundEvent events → PrintsEvents (entries_in s) events u v at new →
      Appends lines_at lines_new (events_text Numbers events) → Rages s steps w v lines_old lines_new old new

  -- all events lead to themselves
  pub all_lead : (s : Spelling) (steps : ℕ) (w : WorldState A) (lines_old old : Known) →
      LeadsOn s steps steps w w lines_old lines_old old old
  all_lead s steps w lines_old old events v lines_new new many sound printed put_down =
      record { events = events; many = many; sound = sound; printed = printed; put_down = put_down }

  -- one event, and then the rest
  pub one_leads : (s : Spelling) (steps left rest : ℕ) (w u next : WorldState A)
      (lines_old lines_at lines_next old at at_next : Known) →
      left ≡ rest + 1 → LeadsOn s steps left w u lines_old lines_at old at →
      RagesOnce s u next lines_at lines_next at at_next → LeadsOn s steps rest w next lines_old lines_next old at_next
  one_leads s steps left rest w u next lines_old lines_at lines_next old at at_next one leads once
      events v lines_new new many sound printed put_down =
      leads (once.event ∷ events) v lines_new new (longer once.event events left rest one many) (once.sound, sound)
      (event_before (entries_in s) once.event events u next v at at_next new once.printed printed)
      (appends_more lines_at lines_next lines_new (line (event_text Numbers once.event)) (events_text Numbers events) once.put_down
      put_down)

  -- no event leads nowhere
  pub none_leads : (s : Spelling) (steps left : ℕ) (w u : WorldState A) (lines_old lines_at old at : Known) → left ≡ 0 →
      LeadsOn s steps left w u lines_old lines_at old at → Rages s steps w u lines_old lines_at old at
  none_leads s steps left w u lines_old lines_at old at none leads =
      leads [] u lines_at at (sym none) tt (refl, refl) (appends_nothing lines_at)
