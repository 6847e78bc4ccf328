-- What is printed of a live run at a site, as its text describes it.
use Rattle.std.specs.Prelude.{◌≡◌, ◌++◌, ℕ, Bool, true, false, List}
use Rattle.std.specs.Io.KnownBytes.{Appends}
use Rattle.runner.specs.world.World.{WorldState, fresh_world}
use Rattle.runner.specs.world_log.Growing.{WorldHistory}
use Rattle.runner.specs.Runner.{RunnerState}
use Rattle.site.specs.Sound.{IsSound}
use Rattle.site_parts.specs.declared.parts.Parts.{Parts}
use Rattle.site_text.specs.Document.{IsDocument}
use Rattle.site_history.specs.Counting.{counts_of, none_counted}
use Rattle.site_history.specs.Printed.{Known, end_text, line}
use Rattle.site_live.specs.Running.{LiveState, Lives, handed_in, printed_in}
use Rattle.site_live.specs.Steps.{SaysLive, asked_of}
use Rattle.site_live.specs.declared.lap.Lap.TheVariants.{At}
use Rattle.script.specs.declared.step.Step.{Step}
use Rattle.words.specs.printing.declared.spelling.Spelling.{Spelling}
use Rattle.world_kept.specs.Deeds.{LeadsTo}
use Rattle.world_kept.specs.Kept.{IsLegalOf}

-- a world opens at the site that a document describes
pub record IsOpened {A : Type 0} (site : List ℕ) (fresh : WorldState A) : Type 0 where
  pub document : IsDocument site
  pub parts : Parts A
  pub sound : IsSound parts
  pub opens : fresh ≡ fresh_world parts

-- a live run as it begins: each station has its turn before time passes
abbrev pub begun : {A : Type 0} → (is_open : Bool) → WorldState A → LiveState A
begun is_open fresh = record {
  runner = record { world = fresh; is_open = is_open; strayed = false; is_led = true; is_whole = true };
  counts = none_counted;
  lap = At 0;
}

-- the entries that were handed out, and behind them those that are kept, are the history of the whole world to which
-- events alone led, and legal, as long as no stray was heard (5.4)
pub record IsWholePast {A : Type 0} (fresh : WorldState A) (told : WorldHistory A) (left : RunnerState A) : Type 0 where
  pub leads : left.is_led ≡ true → LeadsTo told fresh left.world
  pub legal : left.is_led ≡ true → IsLegalOf (told ++ left.world.history) left.world

-- turns were taken from a world on, with just the requests, Who-Is and restarts that the steps ask for, in their order,
-- and just those of their times refused that can't pass; time passed only once each station had its turn to wake, in
-- the order of the site, or nothing was due of it; each turn is printed, and at last what there was of all, from the
-- beginning on. The entries that were printed, behind any that there were, are those that were handed out with those
-- that are kept; as long as no stray was heard, these are the whole legal history of what events leave of the world
pub record PrintsLiveRun {A : Type 0} (s : Spelling) (is_open : Bool) (steps : List (Step A)) (fresh : WorldState A)
    (old new : Known) : Type 0 where
  pub left : LiveState A
  pub at_end : Known
  pub lives : Lives s (asked_of steps) (begun is_open fresh) left old at_end
  pub told : WorldHistory A
  pub are_told : told ≡ handed_in s lives.moves (begun is_open fresh) left old at_end lives.printed
  pub are_printed : fresh.history ++ printed_in s lives.moves (begun is_open fresh) left old at_end lives.printed
      ≡ told ++ left.runner.world.history
  pub end_printed : Appends at_end new
      (line (end_text (counts_of (told ++ left.runner.world.history)) left.runner.world.moment))
  pub past : IsWholePast fresh told left.runner

-- the texts are those of a sound site and of a script, which was run live there
pub record RunsLive (A : Type 0) (s : Spelling) (is_open : Bool) (site script : List ℕ) (old new : Known) : Type 0 where
  pub fresh : WorldState A
  pub steps : List (Step A)
  pub opened : IsOpened site fresh
  pub said : SaysLive script steps
  pub run : PrintsLiveRun s is_open steps fresh old new
