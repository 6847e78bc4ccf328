-- Words of a command line that several subcommands have.
use Rattle.std.specs.Prelude.{◌≡◌, List, [], Option, Some, None, Bool, true, false, codes, unwrap_or}
use Rattle.clap.specs.Words.{App, Rule, Row, Text, all_of, first_of, new_app, new_rule, with_rule}
use Rattle.clap.specs.declared.builder.ArgAction.TheVariants.{Set, SetTrue}

-- a word that names a file
abbrev pub file_rule : Text → Rule
file_rule id = record (new_rule id) { action = Some Set; value_names = 1; required = true }

-- a word that names a file, or none
abbrev pub optional_file_rule : Text → Rule
optional_file_rule id = record (new_rule id) { action = Some Set; value_names = 1 }

-- a flag that is given or not
abbrev pub flag_rule : Text → Rule
flag_rule id = record (new_rule id) { long = Some id; action = Some SetTrue }

-- a word that is given or not, behind a flag of its name
abbrev pub option_rule : Text → Rule
option_rule id = record (new_rule id) { long = Some id; action = Some Set; value_names = 1 }

-- two words that are given or not, behind a flag of their name
abbrev pub pair_rule : Text → Rule
pair_rule id = record (new_rule id) { long = Some id; action = Some Set; value_names = 2 }

-- a word that has to be given, behind a flag of its name
abbrev pub required_rule : Text → Rule
required_rule id = record (new_rule id) { long = Some id; action = Some Set; value_names = 1; required = true }

-- a site file has to be named
abbrev pub site_rule : Rule
site_rule = file_rule (codes "site")

-- each line is printed as JSON, or none is
abbrev pub json_rule : Rule
json_rule = flag_rule (codes "json")

-- the standard's names are printed in place of numbers, or numbers are
abbrev pub names_rule : Rule
names_rule = flag_rule (codes "names")

-- a file of a capture is named or not
abbrev pub capture_rule : Rule
capture_rule = option_rule (codes "pcap")

-- a file for a script is named or not, behind `--script`
abbrev pub script_file_rule : Rule
script_file_rule =
    record (new_rule (codes "file")) { long = Some (codes "script"); action = Some Set; value_names = 1 }

-- a subcommand of this name, behind which a site file and a script are named
abbrev pub at_site : Text → App
at_site name = with_rule (with_rule (new_app name) site_rule) (file_rule (codes "script"))

-- the word of this name behind it, which is empty where there is none
abbrev pub word_of : Text → List Row → Text
word_of id rows = unwrap_or (first_of id rows) []

-- all words of this name, none where it isn't given
abbrev pub words_of : Text → List Row → List Text
words_of id rows = unwrap_or (all_of id rows) []

-- a flag is given, or isn't
pub record IsFlag (word : Option Text) (flag : Bool) : Type 0 where
  pub given : word ≡ Some (codes "true") → flag ≡ true
  pub other : word ≡ Some (codes "false") → flag ≡ false
  pub none : word ≡ None → flag ≡ false
