-- The command line of the program, and what its words ask for.
use Rattle.std.specs.Prelude.{◌≡◌, ◌≢◌, List, [], Option, Some, None, codes, map, true, false, option_map}
use Rattle.std.specs.Prelude.{string_bytes}
use Rattle.clap.specs.Lexer.{usize_max}
use Rattle.clap.specs.Words.{App, Rule, Row, Text, new_app, new_rule, with_rule, with_subcommand}
use Rattle.clap.specs.Words.{first_of, one_of}
use Rattle.clap.specs.declared.builder.ArgAction.TheVariants.{Append}
use Rattle.command_order.specs.Words.{IsFlag, at_site, capture_rule, file_rule, flag_rule, json_rule, names_rule}
use Rattle.command_order.specs.Words.{option_rule, optional_file_rule, site_rule, word_of, words_of}
use Rattle.command_order.specs.Describing.{IsStatingOf, completions, man, pics}
use Rattle.command_order.specs.Diagnosing.{IsDiagnosingOf, diagnose}
use Rattle.command_order.specs.Searching.{IsSearchingOf, search}
use Rattle.command_order.specs.Simulating.{IsSimulationOf, sim}
use Rattle.command_order.specs.Starting.{IsStartingOf, init}
use Rattle.command_order.specs.Storming.{IsStormingOf, storm}
use Rattle.command_order.specs.declared.order.Checking.{Checking}
use Rattle.command_order.specs.declared.order.Explaining.{Explaining}
use Rattle.command_order.specs.declared.order.LiveRun.{LiveRun}
use Rattle.command_order.specs.declared.order.Order.{Order}
use Rattle.command_order.specs.declared.order.Order.TheVariants.{Answer, Check, Completions, Explain, Fmt, Init, Man}
use Rattle.command_order.specs.declared.order.Order.TheVariants.{Diagnose, Pics, Run, Search, Sim, Storm}

-- one word or more, which spell a datagram
abbrev pub hex_rule : Rule
hex_rule = record (new_rule (codes "hex")) {
  action = Some Append;
  range = Some (record { start_inclusive = 1; end_inclusive = usize_max });
  value_names = 1;
  required = true;
}

-- a subcommand with these words behind it
abbrev pub tool : Text → App
tool name = with_rule (new_app name) hex_rule

-- the words that spell a datagram, or none
abbrev pub optional_hex_rule : Rule
optional_hex_rule = record hex_rule { required = false }

-- the subcommand that explains a datagram, or a file with a capture
abbrev pub explain : App
explain =
    with_rule (with_rule (with_rule (with_rule (new_app (codes "explain")) optional_hex_rule) capture_rule) json_rule)
    names_rule

-- the program without its subcommands, one of which has to be there; it has a version
abbrev pub bare : App
bare =
    let app = new_app (codes "bacsite") in
    record app { top = record app.top { subcommand_required = true; has_version = true } }

-- the subcommand that runs a site live, with how it goes on
abbrev pub live : App
live = with_rule (with_rule (at_site (codes "run")) (flag_rule (codes "open"))) (option_rule (codes "for"))

-- .. and with how it is written: run SITE SCRIPT [--open] [--for SECONDS] [--pcap FILE] [--json] [--names]
abbrev pub run : App
run = with_rule (with_rule (with_rule live capture_rule) json_rule) names_rule

-- the subcommand that tells what is wrong with a site file, and with a script for it, which is one of a live run or
-- not, and where a note is a fault or not
abbrev pub check : App
check =
    with_rule (with_rule (with_rule (with_rule (with_rule (new_app (codes "check")) site_rule)
    (optional_file_rule (codes "script"))) json_rule) (flag_rule (codes "strict"))) (flag_rule (codes "live"))

-- the subcommand that mends the spaces and line ends of a script
abbrev pub fmt : App
fmt = with_rule (new_app (codes "fmt")) (file_rule (codes "script"))

-- the program with the subcommands of one datagram: answer HEX.., explain HEX.. or explain --pcap FILE,
-- each explain with --json and --names or without, and diagnose CAPTURE ..
abbrev pub tools : App
tools = with_subcommand (with_subcommand (with_subcommand bare (tool (codes "answer")).top) explain.top) diagnose.top

-- .. with those of a simulated site: sim SITE SCRIPT .., storm SITE SCRIPT --seed N --steps N .. and
-- search SITE SCRIPT --until WORDS [--depth N]
abbrev pub simulators : App
simulators = with_subcommand (with_subcommand (with_subcommand tools sim.top) storm.top) search.top

-- .. with the others of a site: run SITE SCRIPT .., check SITE [SCRIPT] [--json] [--strict] [--live] and fmt SCRIPT
abbrev pub site_commands : App
site_commands = with_subcommand (with_subcommand (with_subcommand simulators run.top) check.top) fmt.top

-- the program: those, pics [--markdown], init [FOLDER] [--devices N], completions SHELL and man
abbrev pub program : App
program =
    with_subcommand (with_subcommand (with_subcommand (with_subcommand site_commands pics.top) init.top)
    completions.top) man.top

-- the subcommand that the words name
abbrev pub name_of : Option (Text × List Row) → Option Text
name_of found = option_map (λ p. p.0) found

-- the words behind a subcommand
abbrev pub hex_of : List Row → List Text
hex_of rows = words_of (codes "hex") rows

-- the words behind the subcommand that is named
abbrev pub digits_of : Option (Text × List Row) → List Text
digits_of None = []
digits_of (Some p) = hex_of p.1

-- the rows of the subcommand that is named
abbrev pub rows_in : Option (Text × List Row) → List Row
rows_in None = []
rows_in (Some p) = p.1

-- the words that are given are taken apart, and the capture that is named, as JSON and with names where that is asked
-- for
pub record IsExplainingOf (rows : List Row) (e : Explaining) : Type 0 where
  pub words : map string_bytes e.words.items ≡ hex_of rows
  pub capture : option_map string_bytes e.capture ≡ first_of (codes "pcap") rows
  pub json : IsFlag (one_of (codes "json") rows) e.is_json
  pub names : IsFlag (one_of (codes "names") rows) e.is_named

-- the live run is of the files that are named, is open, and printed as JSON and by names, where that is asked for, goes
-- on for the seconds given, and is captured where a file is named
pub record IsLiveRunOf (rows : List Row) (r : LiveRun) : Type 0 where
  pub site : string_bytes r.site ≡ word_of (codes "site") rows
  pub script : string_bytes r.script ≡ word_of (codes "script") rows
  pub flag : IsFlag (one_of (codes "open") rows) r.is_open
  pub seconds : option_map string_bytes r.seconds ≡ first_of (codes "for") rows
  pub capture : option_map string_bytes r.capture ≡ first_of (codes "pcap") rows
  pub json : IsFlag (one_of (codes "json") rows) r.is_json
  pub names : IsFlag (one_of (codes "names") rows) r.is_named

-- the check is of the files that are named, without a script where none is, and as JSON, strict and for a live run
-- where that is asked for
pub record IsCheckingOf (rows : List Row) (c : Checking) : Type 0 where
  pub site : string_bytes c.site ≡ word_of (codes "site") rows
  pub script : option_map string_bytes c.script ≡ first_of (codes "script") rows
  pub json : IsFlag (one_of (codes "json") rows) c.is_json
  pub strict : IsFlag (one_of (codes "strict") rows) c.is_strict
  pub live : IsFlag (one_of (codes "live") rows) c.is_live

-- the words name no subcommand of a site
abbrev pub NamesNoSiteCommand : Option (Text × List Row) → Type 0
NamesNoSiteCommand found = (name_of found ≢ Some (codes "sim")) × (name_of found ≢ Some (codes "storm"))
    × (name_of found ≢ Some (codes "search")) × (name_of found ≢ Some (codes "run"))
    × (name_of found ≢ Some (codes "check")) × (name_of found ≢ Some (codes "fmt"))

-- they name none of a datagram, and none that describes or begins something
abbrev pub NamesNoTool : Option (Text × List Row) → Type 0
NamesNoTool found = (name_of found ≢ Some (codes "answer")) × (name_of found ≢ Some (codes "explain"))
    × (name_of found ≢ Some (codes "diagnose"))
    × (name_of found ≢ Some (codes "pics")) × (name_of found ≢ Some (codes "init"))
    × (name_of found ≢ Some (codes "completions")) × (name_of found ≢ Some (codes "man"))

-- they name no subcommand that there is
abbrev pub NamesNone : Option (Text × List Row) → Type 0
NamesNone found = NamesNoSiteCommand found × NamesNoTool found

-- the order is the subcommand that the words name, with the words behind it
abbrev pub IsOrderOf : Option (Text × List Row) → Option Order → Type 0
IsOrderOf found None = NamesNone found
IsOrderOf found (Some (Answer words)) =
    (name_of found ≡ Some (codes "answer")) × (map string_bytes words.items ≡ digits_of found)
IsOrderOf found (Some (Explain e)) = (name_of found ≡ Some (codes "explain")) × IsExplainingOf (rows_in found) e
IsOrderOf found (Some (Diagnose d)) = (name_of found ≡ Some (codes "diagnose")) × IsDiagnosingOf (rows_in found) d
IsOrderOf found (Some (Sim s)) = (name_of found ≡ Some (codes "sim")) × IsSimulationOf (rows_in found) s
IsOrderOf found (Some (Storm s)) = (name_of found ≡ Some (codes "storm")) × IsStormingOf (rows_in found) s
IsOrderOf found (Some (Search s)) = (name_of found ≡ Some (codes "search")) × IsSearchingOf (rows_in found) s
IsOrderOf found (Some (Run r)) = (name_of found ≡ Some (codes "run")) × IsLiveRunOf (rows_in found) r
IsOrderOf found (Some (Check c)) = (name_of found ≡ Some (codes "check")) × IsCheckingOf (rows_in found) c
IsOrderOf found (Some (Fmt script)) =
    (name_of found ≡ Some (codes "fmt")) × (string_bytes script ≡ word_of (codes "script") (rows_in found))
IsOrderOf found (Some (Init s)) = (name_of found ≡ Some (codes "init")) × IsStartingOf (rows_in found) s
IsOrderOf found (Some (Completions shell)) =
    (name_of found ≡ Some (codes "completions")) × (string_bytes shell ≡ word_of (codes "shell") (rows_in found))
IsOrderOf found (Some Man) = name_of found ≡ Some (codes "man")
IsOrderOf found (Some (Pics p)) = (name_of found ≡ Some (codes "pics")) × IsStatingOf (rows_in found) p

-- .. or there is none, for this reason
abbrev pub IsOrderOr : (Option (Text × List Row) → Type 0) → Option (Text × List Row) → Option Order → Type 0
IsOrderOr Reason found None = Reason found
IsOrderOr Reason found (Some order) = IsOrderOf found (Some order)
