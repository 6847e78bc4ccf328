-- What is done for the command line of a first site.
use Rattle.std.specs.Prelude.{◌≡◌, ◌≤◌, ℕ, List, ◌++◌, Option, Some, None, codes, option_map, string_bytes}
use Rattle.clap.specs.Words.{Text}
use Rattle.command_order.specs.declared.starting.Starting.{Starting}

-- the name of a file in a folder, if one is named
abbrev pub name_in : Option Text → Text → Text
name_in None name = name
name_in (Some folder) name = folder ++ (codes "/" ++ name)

-- a site and a script were written into a folder
pub record AreWritten (writes : List ℕ → List ℕ → Type 0) (folder : Option Text) : Type 0 where
  pub site : List ℕ
  pub script : List ℕ
  pub site_written : writes (name_in folder (codes "site.toml")) site
  pub script_written : writes (name_in folder (codes "first.script")) script

-- the status: 2 for a number of devices that is none alone, and with 0 both files were written
pub record IsBegun (writes : List ℕ → List ℕ → Type 0) (s : Starting) (status : ℕ) : Type 0 where
  pub few : status ≤ 2
  pub usual : s.devices ≡ None → status ≤ 1
  pub written : status ≡ 0 → AreWritten writes (option_map string_bytes s.folder)
