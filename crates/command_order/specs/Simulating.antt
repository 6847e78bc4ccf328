-- The command line of a simulation, and what its words ask for.
use Rattle.std.specs.Prelude.{◌≡◌, List, codes, option_map, string_bytes}
use Rattle.clap.specs.Words.{App, Row, first_of, one_of, with_rule}
use Rattle.command_order.specs.Words.{IsFlag, at_site, capture_rule, flag_rule, json_rule, names_rule}
use Rattle.command_order.specs.Words.{option_rule, script_file_rule, word_of}
use Rattle.command_order.specs.declared.simulating.Outputs.{Outputs}
use Rattle.command_order.specs.declared.simulating.Simulation.{Simulation}

-- the subcommand with how its lines are printed
abbrev pub printed : App
printed = with_rule (with_rule (with_rule (at_site (codes "sim")) (flag_rule (codes "trace"))) json_rule) names_rule

-- .. with the files that are written of the run
abbrev pub with_files : App → App
with_files app =
    with_rule (with_rule (with_rule (with_rule app capture_rule) (option_rule (codes "ladder")))
    (option_rule (codes "report"))) script_file_rule

-- .. with the report of what the script expects
abbrev pub with_junit : App → App
with_junit app = with_rule app (option_rule (codes "junit"))

-- .. with the times between which ladder and report show it
abbrev pub with_times : App → App
with_times app = with_rule (with_rule app (option_rule (codes "from"))) (option_rule (codes "to"))

-- .. with the stations and requests that they show
abbrev pub with_choice : App → App
with_choice app = with_rule (with_rule app (option_rule (codes "only"))) (option_rule (codes "request"))

-- the subcommand that runs a script at a site: sim SITE SCRIPT, with a trace, as JSON, by names, with files of a
-- capture, a ladder, a report, a script and a report of what is expected, and the part of the run that ladder and
-- report show
abbrev pub sim : App
sim = with_choice (with_times (with_junit (with_files printed)))

-- the files are those that are named, and the part is the one that is given
pub record AreOutputsOf (rows : List Row) (o : Outputs) : Type 0 where
  pub capture : option_map string_bytes o.capture ≡ first_of (codes "pcap") rows
  pub ladder : option_map string_bytes o.ladder ≡ first_of (codes "ladder") rows
  pub report : option_map string_bytes o.report ≡ first_of (codes "report") rows
  pub script : option_map string_bytes o.script ≡ first_of (codes "file") rows
  pub junit : option_map string_bytes o.junit ≡ first_of (codes "junit") rows
  pub from : option_map string_bytes o.from ≡ first_of (codes "from") rows
  pub to : option_map string_bytes o.to ≡ first_of (codes "to") rows
  pub only : option_map string_bytes o.only ≡ first_of (codes "only") rows
  pub request : option_map string_bytes o.request ≡ first_of (codes "request") rows

-- the simulation is of the files that are named, is traced, and printed as JSON and by names, where that is asked for,
-- and writes what is named
pub record IsSimulationOf (rows : List Row) (s : Simulation) : Type 0 where
  pub site : string_bytes s.site ≡ word_of (codes "site") rows
  pub script : string_bytes s.script ≡ word_of (codes "script") rows
  pub trace : IsFlag (one_of (codes "trace") rows) s.is_traced
  pub json : IsFlag (one_of (codes "json") rows) s.is_json
  pub names : IsFlag (one_of (codes "names") rows) s.is_named
  pub outputs : AreOutputsOf rows s.outputs
