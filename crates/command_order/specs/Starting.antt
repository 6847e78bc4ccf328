-- The command line of a first site, and what its words ask for.
use Rattle.std.specs.Prelude.{◌≡◌, List, codes, option_map, string_bytes}
use Rattle.clap.specs.Words.{App, Row, first_of, new_app, with_rule}
use Rattle.command_order.specs.Words.{option_rule, optional_file_rule}
use Rattle.command_order.specs.declared.starting.Starting.{Starting}

-- the subcommand that writes a site and a script to begin with: init [FOLDER] [--devices N]
abbrev pub init : App
init =
    with_rule (with_rule (new_app (codes "init")) (optional_file_rule (codes "folder"))) (option_rule (codes "devices"))

-- they are written into the folder that is named, for as many devices as are told
pub record IsStartingOf (rows : List Row) (s : Starting) : Type 0 where
  pub folder : option_map string_bytes s.folder ≡ first_of (codes "folder") rows
  pub devices : option_map string_bytes s.devices ≡ first_of (codes "devices") rows
