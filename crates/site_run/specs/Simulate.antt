-- What is printed of a script at a site, as their texts describe them.
use Rattle.std.specs.Prelude.{◌≡◌, ℕ, Bool, false, List}
use Rattle.std.specs.Io.KnownBytes.{Appends}
use Rattle.std.specs.List.{AllByRecursion}
use Rattle.site_history.specs.simulator.carry_world.Laws.{IsLegal}
use Rattle.script.specs.Lines.{SaysSteps}
use Rattle.script.specs.Numbers.{line_numbers}
use Rattle.script.specs.Steps.{IsSoundStep}
use Rattle.script.specs.declared.step.Step.{Step}
use Rattle.site_history.specs.simulator.Judged.{instances_of, judged_of}
use Rattle.site_history.specs.simulator.world.World.{WorldState, fresh_world}
use Rattle.site.specs.Sound.{IsSound}
use Rattle.site_parts.specs.declared.parts.Parts.{Parts}
use Rattle.site_text.specs.Document.{IsDocument}
use Rattle.site_history.specs.Counting.{counts_of}
use Rattle.site_history.specs.Printed.{end_text, line}
use Rattle.site_run.specs.Running.{Known, TakesSteps}
use Rattle.site_run.specs.declared.running.Telling.{Telling}

-- a world opens at the site that a document describes, and these are the steps of a script
pub record IsOpened {A : Type 0} (site script : List ℕ) (fresh : WorldState A) (steps : List (Step A)) : Type 0 where
  pub document : IsDocument site
  pub parts : Parts A
  pub sound : IsSound parts
  pub opens : fresh ≡ fresh_world parts
  pub said : SaysSteps script steps
  pub fit : AllByRecursion IsSoundStep steps

-- steps were taken in a world, one after another, which lines of a script ask for that have these numbers; each is
-- printed, and at last what there was of all; whether an expectation is unmet; the history that was printed is legal
-- (5.4)
pub record PrintsRun {A : Type 0} (t : Telling) (lines : List ℕ) (steps : List (Step A)) (unmet : Bool)
    (fresh : WorldState A) (old new : Known) : Type 0 where
  pub left : WorldState A
  pub at_end : Known
  pub taken : TakesSteps t lines steps false unmet fresh left old at_end
  pub end_printed : Appends at_end new (line (end_text (counts_of left.history) left.moment))
  pub legal : IsLegal (instances_of left.site) left.history (judged_of left)

-- the texts are those of a sound site and of a script, and its steps were taken there; whether an expectation of it is
-- unmet
pub record Simulates (A : Type 0) (t : Telling) (unmet : Bool) (site script : List ℕ) (old new : Known) : Type 0 where
  pub fresh : WorldState A
  pub steps : List (Step A)
  pub opened : IsOpened site script fresh steps
  pub run : PrintsRun t (line_numbers script) steps unmet fresh old new
