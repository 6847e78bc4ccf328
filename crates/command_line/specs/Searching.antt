-- What is done for the command line of a search.
use Rattle.std.specs.Prelude.{◌≡◌, ◌≤◌, ◌⊎◌, ℕ, false, List, Option, Some, None, codes, option_map, string_bytes}
use Rattle.std.specs.Global.{Global}
use Rattle.clap.specs.Words.{Text}
use Rattle.command_files.specs.Outputs.{AreBothStandard}
use Rattle.command_order.specs.declared.searching.Searching.{Searching}
use Rattle.console.specs.Answer.{Known}
use Rattle.site_search.specs.Searching.{Searches}
use Rattle.command_line.specs.Words.{spelling_of}
use Rattle.words.specs.Says.{SaysUnsigned}

-- how many events there may be: as a word says, and eight where there is none
abbrev pub IsDepth : Option Text → ℕ → Type 0
IsDepth None depth = depth ≡ 8
IsDepth (Some word) depth = SaysUnsigned 64 word depth

-- the files of a search were read, by what reads them, and the script was printed that leads to an entry of these words
pub record PrintsSearch (reads : List ℕ → List ℕ → Type 0) (s : Searching) (old new : Known) : Type 0 where
  pub site : List ℕ
  pub script : List ℕ
  pub depth : ℕ
  pub depth_said : IsDepth (option_map string_bytes s.depth) depth
  pub site_read : reads (string_bytes s.site) site
  pub script_read : reads (string_bytes s.script) script
  pub searches : Searches Global (spelling_of s.is_named false) site script (string_bytes s.until) depth old new

-- the word of a kind of entry, which a line may begin with behind its moment
abbrev pub IsKind : Text → Type 0
IsKind word =
    (word ≡ codes "issue") ⊎ (word ≡ codes "executed") ⊎ (word ≡ codes "answered") ⊎ (word ≡ codes "ended")
    ⊎ (word ≡ codes "restarted")

-- the status of a search: 2 for a depth that is none, for words that no line begins with and where standard input would
-- be read twice alone; with 0 its script was printed
pub record IsSearched (reads : List ℕ → List ℕ → Type 0) (s : Searching) (status : ℕ) (old new : Known) : Type 0 where
  pub few : status ≤ 2
  pub usual : s.depth ≡ None → (AreBothStandard (string_bytes s.site) (string_bytes s.script) → ⊥) →
      IsKind (string_bytes s.until) → status ≤ 1
  pub printed : status ≡ 0 → PrintsSearch reads s old new
