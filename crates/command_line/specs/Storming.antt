-- What is done for the command line of a storm.
use Rattle.std.specs.Prelude.{◌≡◌, ◌≤◌, ℕ, List, [], ◌∷◌, ◌++◌, Option, Some, None, Bool, true, false, option_map}
use Rattle.std.specs.Prelude.{string_bytes}
use Rattle.std.specs.Global.{Global}
use Rattle.clap.specs.Words.{Text}
use Rattle.command_files.specs.Outputs.{AreNotStandard, AreSafe}
use Rattle.command_order.specs.declared.storming.Storming.{Storming}
use Rattle.site_search.specs.site_storm.Lines.{Known, end_missing}
use Rattle.site_search.specs.site_storm.Storming.{CountsStorm, Storms}
use Rattle.command_line.specs.Words.{spelling_of}
use Rattle.words.specs.Says.{SaysUnsigned}
use Rattle.words.specs.printing.declared.spelling.Spelling.{Spelling}

-- a file was written, if one is named
abbrev pub IsWrittenIfNamed : (List ℕ → List ℕ → Type 0) → Option (List ℕ) → List ℕ → Type 0
IsWrittenIfNamed writes None text = Unit {0}
IsWrittenIfNamed writes (Some name) text = writes name text

-- a storm is printed, or its counts are
abbrev pub PrintsOrCounts : Bool → Spelling → (site script : List ℕ) → (n : ℕ) →
    (lines_old lines_new old new : Known) → Type 0
PrintsOrCounts false spelling site script n lines_old lines_new old new =
    Storms Global spelling site script n lines_old lines_new old new
PrintsOrCounts true spelling site script n lines_old lines_new old new =
    CountsStorm Global site script n lines_old lines_new old new

-- a storm of so many events at these texts was printed or counted, and its script was written where a file is named:
-- the one that was given, with the end that its last line lacks, and behind it the lines of the events
pub record PrintsTexts (writes : List ℕ → List ℕ → Type 0) (s : Storming) (site script : List ℕ) (n : ℕ)
    (old new : Known) : Type 0 where
  pub lines : List ℕ
  pub printed : PrintsOrCounts s.is_counted (spelling_of s.is_named false) site script n
      (Some (script ++ end_missing script)) (Some lines) old new
  pub written : IsWrittenIfNamed writes (option_map string_bytes s.file) lines

-- nothing is wanted of a storm but its counts
pub record IsCountedAlone (s : Storming) : Type 0 where
  pub counted : s.is_counted ≡ true
  pub unwritten : s.file ≡ None

-- the files of a storm were read, by what reads them, and what came of as many events as its word says was printed and
-- written
pub record PrintsStorming (reads writes : List ℕ → List ℕ → Type 0) (s : Storming) (old new : Known) : Type 0 where
  pub site : List ℕ
  pub script : List ℕ
  pub steps : ℕ
  pub steps_said : SaysUnsigned 64 (string_bytes s.steps) steps
  pub site_read : reads (string_bytes s.site) site
  pub script_read : reads (string_bytes s.script) script
  pub storms : PrintsTexts writes s site script steps old new

-- the file that a storm writes, where it is named
abbrev pub script_of : Storming → List (Option Text)
script_of s = option_map string_bytes s.file ∷ []

-- the status of a storm: with 0 no file was written that is read besides, and it was printed
pub record IsStormed (reads writes same apart : List ℕ → List ℕ → Type 0) (s : Storming) (status : ℕ)
    (old new : Known) : Type 0 where
  pub few : status ≤ 2
  pub safe : status ≡ 0 → AreSafe apart (string_bytes s.site) (string_bytes s.script) (script_of s)
  pub printed : status ≡ 0 → PrintsStorming reads writes s old new

-- .. and it was printed on standard output, or on the standard error where its script goes to standard output
pub record IsStormedBeside (reads writes same apart : List ℕ → List ℕ → Type 0) (s : Storming) (status : ℕ)
    (old new err_old err_new : Known) : Type 0 where
  pub few : status ≤ 2
  pub safe : status ≡ 0 → AreSafe apart (string_bytes s.site) (string_bytes s.script) (script_of s)
  pub printed : status ≡ 0 → AreNotStandard (script_of s) → PrintsStorming reads writes s old new
  pub beside : status ≡ 0 → (AreNotStandard (script_of s) → ⊥) → PrintsStorming reads writes s err_old err_new
