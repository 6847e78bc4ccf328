-- What is done for a command line, and its exit status.
use Rattle.std.specs.Prelude.{◌≡◌, ◌≢◌, ◌≤◌, ◌⊎◌, ℕ, Bool, true, false, List, [], ◌∷◌, Option, Some, None}
use Rattle.std.specs.Prelude.{Result, Ok, Err, IfOk, map, option_map, string_bytes}
use Rattle.std.specs.Global.{Global}
use Rattle.clap.specs.Words.{Text, FailsBy, fault_of, kind_of, subcommand_of}
use Rattle.clap.specs.declared.error.Error.{Error}
use Rattle.clap.specs.declared.error.kind.ErrorKind.{ErrorKind}
use Rattle.clap.specs.declared.error.kind.ErrorKind.TheVariants.{OutOfMemory, DisplayHelp, DisplayVersion}
use Rattle.console.specs.Answer.{Known, text_of, PrintsAnswer}
use Rattle.console.specs.Builtin.{builtin_device}
use Rattle.command_order.specs.declared.order.Checking.{Checking}
use Rattle.command_order.specs.declared.order.LiveRun.{LiveRun}
use Rattle.command_order.specs.declared.order.Order.{Order}
use Rattle.command_order.specs.declared.order.Order.TheVariants.{Answer, Check, Completions, Explain, Fmt, Init, Man}
use Rattle.command_order.specs.declared.order.Order.TheVariants.{Diagnose, Pics, Run, Search, Sim, Storm}
use Rattle.command_order.specs.declared.simulating.Simulation.{Simulation}
use Rattle.site_check.specs.Judged.{AreJudged}
use Rattle.site_capture.specs.site_live.Runs.{RunsLive}
use Rattle.site_capture.specs.site_run.Simulate.{Simulates}
use Rattle.site_capture.specs.site_run.script.Expecting.{HasNoExpectation}
use Rattle.site_capture.specs.site_run.declared.running.Telling.{Telling}
use Rattle.site_capture.specs.site_run.Running.{all_in, entries_in}
use Rattle.command_order.specs.Order.{program, IsOrderOf}
use Rattle.command_tools.specs.Describing.{AreCompletions, IsExplained}
use Rattle.command_files.specs.Outputs.{AreNotStandard, AreSafe, AreUnsafe, standard}
use Rattle.command_line.specs.Searching.{IsSearched}
use Rattle.command_tools.specs.Starting.{IsBegun}
use Rattle.command_line.specs.Storming.{IsStormedBeside}
use Rattle.command_line.specs.Words.{spelling_of}
use Rattle.command_tools.specs.Words.{shown}
use Rattle.words.specs.printing.declared.spelling.Spelling.{Spelling}

-- clap was asked for help or the version
abbrev pub IsHelp : ErrorKind → Type 0
IsHelp kind = (kind ≡ DisplayHelp) ⊎ (kind ≡ DisplayVersion)

-- clap found a fault in the words
abbrev pub IsFault : ErrorKind → Type 0
IsFault kind = (kind ≢ OutOfMemory) × (kind ≢ DisplayHelp) × (kind ≢ DisplayVersion)

-- the status where clap gives no order: 2 exactly for a fault, 0 for help alone
pub record IsStatusOf (kind : ErrorKind) (status : ℕ) : Type 0 where
  pub fault : IsFault kind → status ≡ 2
  pub no_fault : status ≡ 2 → IsFault kind
  pub help : status ≡ 0 → IsHelp kind
  pub few : status ≤ 2

-- what is told of an event, with a trace or without
abbrev pub telling_of : Bool → Spelling → Telling
telling_of true spelling = all_in spelling
telling_of false spelling = entries_in spelling

-- the files of a simulation were read, by what reads them, and what they describe was printed; whether an expectation
-- of the script is unmet
pub record PrintsSimulation (reads : List ℕ → List ℕ → Type 0) (s : Simulation) (unmet : Bool) (old new : Known) :
    Type 0 where
  pub site : List ℕ
  pub script : List ℕ
  pub site_read : reads (string_bytes s.site) site
  pub script_read : reads (string_bytes s.script) script
  pub simulates :
      Simulates Global (telling_of s.is_traced (spelling_of s.is_named s.is_json)) unmet site script old new

-- so much was printed first, and messages may stand behind it
pub record IsPrintedFirst (Printed : Known → Type 0) : Type 0 where
  pub at_first : Known
  pub printed : Printed at_first

-- the file of a script expects nothing, whatever is read of it
pub record FileExpectsNothing (reads : List ℕ → List ℕ → Type 0) (script : List ℕ) : Type 0 where
  pub none : (text : List ℕ) → reads script text → HasNoExpectation Global text

-- the files that a simulation writes, where they are named
abbrev pub outputs_of : Simulation → List (Option Text)
outputs_of s =
    option_map string_bytes s.outputs.capture ∷ option_map string_bytes s.outputs.ladder
    ∷ option_map string_bytes s.outputs.report ∷ option_map string_bytes s.outputs.script
    ∷ option_map string_bytes s.outputs.junit ∷ []

-- the status of a simulation: 2 for times and requests that are no numbers and for files that may not be written alone,
-- 4 where an expectation is unmet alone; with 0 and 4 no file was written that is read or written besides, and it was
-- printed
pub record IsSimulated (reads same apart : List ℕ → List ℕ → Type 0) (s : Simulation) (status : ℕ) (old new : Known) :
    Type 0 where
  pub few : (status ≤ 2) ⊎ (status ≡ 4)
  pub plain : FileExpectsNothing reads (string_bytes s.script) → status ≤ 2
  pub whole_run : s.outputs.from ≡ None → s.outputs.to ≡ None → s.outputs.request ≡ None →
      (AreUnsafe same (string_bytes s.site) (string_bytes s.script) (outputs_of s) → ⊥) → (status ≤ 1) ⊎ (status ≡ 4)
  pub safe : (status ≡ 0) ⊎ (status ≡ 4) → AreSafe apart (string_bytes s.site) (string_bytes s.script) (outputs_of s)
  pub printed : status ≡ 0 → PrintsSimulation reads s false old new
  pub unmet : status ≡ 4 → PrintsSimulation reads s true old new

-- .. and it was printed on standard output, or on the standard error where a file goes to standard output
pub record IsSimulatedBeside (reads same apart : List ℕ → List ℕ → Type 0) (s : Simulation) (status : ℕ)
    (old new err_old err_new : Known) : Type 0 where
  pub few : (status ≤ 2) ⊎ (status ≡ 4)
  pub plain : FileExpectsNothing reads (string_bytes s.script) → status ≤ 2
  pub whole_run : s.outputs.from ≡ None → s.outputs.to ≡ None → s.outputs.request ≡ None →
      (AreUnsafe same (string_bytes s.site) (string_bytes s.script) (outputs_of s) → ⊥) → (status ≤ 1) ⊎ (status ≡ 4)
  pub safe : (status ≡ 0) ⊎ (status ≡ 4) → AreSafe apart (string_bytes s.site) (string_bytes s.script) (outputs_of s)
  pub printed : status ≡ 0 → AreNotStandard (outputs_of s) → PrintsSimulation reads s false old new
  pub beside : status ≡ 0 → (AreNotStandard (outputs_of s) → ⊥) → PrintsSimulation reads s false err_old err_new
  pub unmet : status ≡ 4 → AreNotStandard (outputs_of s) → PrintsSimulation reads s true old new
  pub unmet_beside : status ≡ 4 → (AreNotStandard (outputs_of s) → ⊥) →
      IsPrintedFirst (λ at. PrintsSimulation reads s true err_old at)

-- the files of a live run were read, by what reads them, and what came of the run was printed
pub record PrintsLive (reads : List ℕ → List ℕ → Type 0) (r : LiveRun) (old new : Known) : Type 0 where
  pub site : List ℕ
  pub script : List ℕ
  pub site_read : reads (string_bytes r.site) site
  pub script_read : reads (string_bytes r.script) script
  pub live : RunsLive Global (spelling_of r.is_named r.is_json) r.is_open site script old new

-- the file that a live run writes, where it is named
abbrev pub capture_of : LiveRun → List (Option Text)
capture_of r = option_map string_bytes r.capture ∷ []

-- the status of a live run: 2 for a time that is none and for files that may not be written alone, 4 where an
-- expectation is unmet alone; with 0 and 4 no file was written that is read besides, and it was printed
pub record IsLive (reads same apart : List ℕ → List ℕ → Type 0) (r : LiveRun) (status : ℕ) (old new : Known) :
    Type 0 where
  pub few : (status ≤ 2) ⊎ (status ≡ 4)
  pub plain : FileExpectsNothing reads (string_bytes r.script) → status ≤ 2
  pub with_script : r.seconds ≡ None →
      (AreUnsafe same (string_bytes r.site) (string_bytes r.script) (capture_of r) → ⊥) → (status ≤ 1) ⊎ (status ≡ 4)
  pub safe : (status ≡ 0) ⊎ (status ≡ 4) → AreSafe apart (string_bytes r.site) (string_bytes r.script) (capture_of r)
  pub printed : (status ≡ 0) ⊎ (status ≡ 4) → PrintsLive reads r old new

-- .. and it was printed on standard output, or on the standard error where its capture goes to standard output
pub record IsLiveBeside (reads same apart : List ℕ → List ℕ → Type 0) (r : LiveRun) (status : ℕ)
    (old new err_old err_new : Known) : Type 0 where
  pub few : (status ≤ 2) ⊎ (status ≡ 4)
  pub plain : FileExpectsNothing reads (string_bytes r.script) → status ≤ 2
  pub with_script : r.seconds ≡ None →
      (AreUnsafe same (string_bytes r.site) (string_bytes r.script) (capture_of r) → ⊥) → (status ≤ 1) ⊎ (status ≡ 4)
  pub safe : (status ≡ 0) ⊎ (status ≡ 4) → AreSafe apart (string_bytes r.site) (string_bytes r.script) (capture_of r)
  pub printed : (status ≡ 0) ⊎ (status ≡ 4) → AreNotStandard (capture_of r) → PrintsLive reads r old new
  pub beside : status ≡ 0 → (AreNotStandard (capture_of r) → ⊥) → PrintsLive reads r err_old err_new
  pub unmet_beside : status ≡ 4 → (AreNotStandard (capture_of r) → ⊥) →
      IsPrintedFirst (λ at. PrintsLive reads r err_old at)

-- a file was read, if one is named
abbrev pub IsReadIfNamed : (List ℕ → List ℕ → Type 0) → Option (List ℕ) → Option (List ℕ) → Type 0
IsReadIfNamed reads None None = Unit {0}
IsReadIfNamed reads None (Some text) = ⊥
IsReadIfNamed reads (Some name) None = ⊥
IsReadIfNamed reads (Some name) (Some text) = reads name text

-- the files of a check were read, by what reads them, and they are judged to have no fault
pub record HaveNoFault (reads : List ℕ → List ℕ → Type 0) (c : Checking) : Type 0 where
  pub site : List ℕ
  pub script : Option (List ℕ)
  pub site_read : reads (string_bytes c.site) site
  pub script_read : IsReadIfNamed reads (option_map string_bytes c.script) script
  pub judged : AreJudged Global site script true

-- standard input is named for both files of a check
abbrev pub ReadsTwice : Checking → Type 0
ReadsTwice c = (string_bytes c.site ≡ standard) × (option_map string_bytes c.script ≡ Some standard)

-- the status of a check: 2 where standard input would be read twice alone, and with 0 its files have no fault
pub record IsChecked (reads : List ℕ → List ℕ → Type 0) (c : Checking) (status : ℕ) : Type 0 where
  pub few : status ≤ 2
  pub once : (ReadsTwice c → ⊥) → status ≤ 1
  pub judged : status ≡ 0 → HaveNoFault reads c

-- what is done for what the words ask for: the status is the tool's, and with status 0 its text is printed, or
-- the files have no fault
abbrev pub IsDone :
    (reads writes same apart : List ℕ → List ℕ → Type 0) → Result (Option Order) Error → ℕ →
    (old new err_old err_new : Known) → Type 0
IsDone reads writes same apart (Err e) status old new err_old err_new = IsStatusOf (kind_of e) status
IsDone reads writes same apart (Ok None) status old new err_old err_new = status ≡ 2
IsDone reads writes same apart (Ok (Some (Sim s))) status old new err_old err_new =
    IsSimulatedBeside reads same apart s status (shown s.is_json old) (shown s.is_json new)
    (shown s.is_json err_old) (shown s.is_json err_new)
IsDone reads writes same apart (Ok (Some (Storm s))) status old new err_old err_new =
    IsStormedBeside reads writes same apart s status old new err_old err_new
IsDone reads writes same apart (Ok (Some (Search s))) status old new err_old err_new = IsSearched reads s status old new
IsDone reads writes same apart (Ok (Some (Run r))) status old new err_old err_new =
    IsLiveBeside reads same apart r status (shown r.is_json old) (shown r.is_json new)
    (shown r.is_json err_old) (shown r.is_json err_new)
IsDone reads writes same apart (Ok (Some (Check c))) status old new err_old err_new = IsChecked reads c status
IsDone reads writes same apart (Ok (Some (Answer words))) status old new err_old err_new =
    (status ≤ 1)
    × (status ≡ 0 → PrintsAnswer (builtin_device {A = Global}) (text_of (map string_bytes words.items)) old new)
IsDone reads writes same apart (Ok (Some (Explain e))) status old new err_old err_new =
    IsExplained (spelling_of e.is_named e.is_json) (option_map string_bytes e.capture)
    (map string_bytes e.words.items) status (shown e.is_json old) (shown e.is_json new)
IsDone reads writes same apart (Ok (Some (Diagnose d))) status old new err_old err_new = status ≤ 3
IsDone reads writes same apart (Ok (Some (Pics p))) status old new err_old err_new = status ≤ 1
IsDone reads writes same apart (Ok (Some (Fmt script))) status old new err_old err_new = status ≤ 1
IsDone reads writes same apart (Ok (Some (Init s))) status old new err_old err_new = IsBegun writes s status
IsDone reads writes same apart (Ok (Some (Completions shell))) status old new err_old err_new =
    AreCompletions (string_bytes shell) status
IsDone reads writes same apart (Ok (Some Man)) status old new err_old err_new = status ≤ 1

-- what clap answers of the words, and what is done for that
pub record Runs (reads writes same apart : List ℕ → List ℕ → Type 0) (words : List Text) (status : ℕ)
    (old new err_old err_new : Known) : Type 0 where
  pub asked : Result (Option Order) Error
  pub order : IfOk asked (IsOrderOf (subcommand_of program words))
  pub fault : FailsBy (fault_of program words) asked
  pub done : IsDone reads writes same apart asked status old new err_old err_new
