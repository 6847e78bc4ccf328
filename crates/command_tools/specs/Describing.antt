-- What is done for the command line of a datagram or a capture.
use Rattle.std.specs.Prelude.{◌≡◌, ◌≢◌, ◌≤◌, ℕ, List, [], ◌∷◌, Option, Some, None}
use Rattle.clap.specs.Words.{Text}
use Rattle.command_pages.specs.Shells.{name_of}
use Rattle.command_pages.specs.declared.shell.Shell.{Shell}
use Rattle.console.specs.Answer.{Known, text_of}
use Rattle.console.specs.Explain.{PrintsExplained}
use Rattle.words.specs.printing.declared.spelling.Spelling.{Spelling}

-- the datagram that the words spell was taken apart, or the capture of a file, of which nothing more is said; one of
-- both has to be given, and not both
abbrev pub IsExplained : Spelling → Option Text → List Text → (status : ℕ) → Known → Known → Type 0
IsExplained s None [] status old new = status ≡ 2
IsExplained s None (w ∷ ws) status old new =
    (status ≤ 1) × (status ≡ 0 → PrintsExplained s (text_of (w ∷ ws)) old new)
IsExplained s (Some file) [] status old new = status ≤ 1
IsExplained s (Some file) (w ∷ ws) status old new = status ≡ 2

-- a name is that of a shell
pub record IsShell (name : Text) : Type 0 where
  pub shell : Shell
  pub named : name ≡ name_of shell

-- the status where completions are asked for by a name: 2 for the name of no shell alone
pub record AreCompletions (name : Text) (status : ℕ) : Type 0 where
  pub few : status ≤ 2
  pub known : status ≤ 1 → IsShell name
  pub unknown : status ≡ 2 → (s : Shell) → name ≢ name_of s
