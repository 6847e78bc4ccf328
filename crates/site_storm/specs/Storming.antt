-- What is printed of a storm behind a script at a site, as their texts describe them.
use Rattle.std.specs.Prelude.{ℕ, List, None}
use Rattle.std.specs.Io.KnownBytes.{Appends}
use Rattle.site_run.specs.simulator.carry_world.Laws.{IsLegal}
use Rattle.script.specs.Numbers.{line_numbers}
use Rattle.script.specs.declared.step.Step.{Step}
use Rattle.site_run.specs.simulator.Judged.{instances_of, judged_of}
use Rattle.site_run.specs.simulator.world.World.{WorldState}
use Rattle.site_run.specs.site_history.Counting.{counts_of}
use Rattle.site_run.specs.site_history.Printed.{end_text}
use Rattle.site_run.specs.Running.{PrintsSteps, entries_in}
use Rattle.site_run.specs.Simulate.{IsOpened}
use Rattle.site_storm.specs.Counting.{AreCounts, count_text}
use Rattle.site_storm.specs.Lines.{Known, line}
use Rattle.site_storm.specs.Raging.{Rages}
use Rattle.site_storm.specs.declared.counts.Counts.{Counts}
use Rattle.words.specs.printing.declared.spelling.Spelling.{Spelling}
use Rattle.words.specs.printing.declared.spelling.Spelling.TheVariants.{Numbers}

-- steps were taken in a world, one after another, which lines of a script ask for that have these numbers; then so many
-- events of a storm were made, and all is printed
pub record StormsOver {A : Type 0} (s : Spelling) (lines : List ℕ) (steps : List (Step A)) (n : ℕ)
    (fresh left : WorldState A) (lines_old lines_new old new : Known) : Type 0 where
  pub begun : WorldState A
  pub at_storm : Known
  pub taken : PrintsSteps (entries_in s) lines steps fresh begun old at_storm
  pub rages : Rages s n begun left lines_old lines_new at_storm new

-- so it was, and at last what there was of all is printed; the history that was printed is legal (5.4)
pub record PrintsStorm {A : Type 0} (s : Spelling) (lines : List ℕ) (steps : List (Step A)) (n : ℕ)
    (fresh : WorldState A) (lines_old lines_new old new : Known) : Type 0 where
  pub left : WorldState A
  pub at_end : Known
  pub storms : StormsOver s lines steps n fresh left lines_old lines_new old at_end
  pub end_printed : Appends at_end new (line (end_text (counts_of left.history) left.moment))
  pub legal : IsLegal (instances_of left.site) left.history (judged_of left)

-- how many there were of what in a world is printed
pub record PrintsCountsOf {A : Type 0} (left : WorldState A) (old new : Known) : Type 0 where
  pub counts : Counts
  pub are_counts : AreCounts left counts
  pub printed : Appends old new (line (count_text counts))

-- so many events of a storm were made in a world, and how many there were of what in all of it is printed; the history
-- that was counted is legal. It may have forgotten what can no longer matter: this speaks of the whole world
pub record PrintsCountsFrom {A : Type 0} (n : ℕ) (begun : WorldState A) (lines_old lines_new old new : Known) :
    Type 0 where
  pub left : WorldState A
  pub rages : Rages Numbers n begun left lines_old lines_new None None
  pub printed : PrintsCountsOf left old new
  pub legal : IsLegal (instances_of left.site) left.history (judged_of left)

-- so it was behind a script, and how many there were of what is all that is printed; the history that was counted is
-- legal. All is said of the whole world, however much of it is forgotten
pub record PrintsCounts {A : Type 0} (lines : List ℕ) (steps : List (Step A)) (n : ℕ) (fresh : WorldState A)
    (lines_old lines_new old new : Known) : Type 0 where
  pub left : WorldState A
  pub storms : StormsOver Numbers lines steps n fresh left lines_old lines_new None None
  pub printed : PrintsCountsOf left old new
  pub legal : IsLegal (instances_of left.site) left.history (judged_of left)

-- the texts are those of a sound site and of a script, and a storm went on behind its steps there
pub record Storms (A : Type 0) (s : Spelling) (site script : List ℕ) (n : ℕ) (lines_old lines_new old new : Known) :
    Type 0 where
  pub fresh : WorldState A
  pub steps : List (Step A)
  pub opened : IsOpened site script fresh steps
  pub run : PrintsStorm s (line_numbers script) steps n fresh lines_old lines_new old new

-- .. of which the counts are printed
pub record CountsStorm (A : Type 0) (site script : List ℕ) (n : ℕ) (lines_old lines_new old new : Known) : Type 0 where
  pub fresh : WorldState A
  pub steps : List (Step A)
  pub opened : IsOpened site script fresh steps
  pub run : PrintsCounts (line_numbers script) steps n fresh lines_old lines_new old new
