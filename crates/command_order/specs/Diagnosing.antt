-- The command line of a diagnosis, and what its words ask for.
use Rattle.std.specs.Prelude.{◌≡◌, List, codes, map, option_map, string_bytes}
use Rattle.clap.specs.Words.{App, Row, first_of, new_app, one_of, with_rule}
use Rattle.command_order.specs.Words.{IsFlag, file_rule, flag_rule, json_rule, option_rule, pair_rule, word_of}
use Rattle.command_order.specs.Words.{words_of}
use Rattle.command_order.specs.declared.diagnosing.Diagnosing.{Diagnosing}
use Rattle.command_order.specs.declared.diagnosing.Excerpt.{Excerpt}

-- what is judged, and what is printed of it: diagnose CAPTURE [--timeout MS] [--slow MS] [--port PORT] [--all]
-- [--transactions] [--stations] [--json]
abbrev pub told : App
told =
    with_rule (with_rule (with_rule (with_rule (with_rule
    (with_rule (with_rule (with_rule (new_app (codes "diagnose")) (file_rule (codes "capture")))
    (option_rule (codes "timeout"))) (option_rule (codes "slow"))) (option_rule (codes "port")))
    (flag_rule (codes "all")))
    (flag_rule (codes "transactions"))) (flag_rule (codes "stations"))) json_rule

-- .. with the stations whose packets are asked for: [--between A B] [--instance N]
abbrev pub with_stations : App → App
with_stations app = with_rule (with_rule app (pair_rule (codes "between"))) (option_rule (codes "instance"))

-- .. with the times between which they are: [--from MS] [--to MS]
abbrev pub with_times : App → App
with_times app = with_rule (with_rule app (option_rule (codes "from"))) (option_rule (codes "to"))

-- .. with the files that are read and written beside the capture: [--site SITE]
-- [--report FILE]
abbrev pub with_files : App → App
with_files app = with_rule (with_rule app (option_rule (codes "site"))) (option_rule (codes "report"))

-- the subcommand that diagnoses a capture
abbrev pub diagnose : App
diagnose = with_files (with_times (with_stations told))

-- the packets are those between the two stations, of the device and of the time that are given
pub record IsExcerptOf (rows : List Row) (e : Excerpt) : Type 0 where
  pub between : map string_bytes e.between.items ≡ words_of (codes "between") rows
  pub instance : option_map string_bytes e.instance ≡ first_of (codes "instance") rows
  pub from : option_map string_bytes e.from ≡ first_of (codes "from") rows
  pub to : option_map string_bytes e.to ≡ first_of (codes "to") rows

-- the diagnosis is of the file that is named, with the times and the port that are given, and its tables, and all
-- findings, are printed, also as JSON, where that is asked for, with the names of the site that is named,
-- and a page is written into the file that is named
pub record IsDiagnosingOf (rows : List Row) (d : Diagnosing) : Type 0 where
  pub capture : string_bytes d.capture ≡ word_of (codes "capture") rows
  pub timeout : option_map string_bytes d.timeout ≡ first_of (codes "timeout") rows
  pub slow : option_map string_bytes d.slow ≡ first_of (codes "slow") rows
  pub port : option_map string_bytes d.port ≡ first_of (codes "port") rows
  pub all : IsFlag (one_of (codes "all") rows) d.shows_all
  pub transactions : IsFlag (one_of (codes "transactions") rows) d.lists_transactions
  pub stations : IsFlag (one_of (codes "stations") rows) d.lists_stations
  pub json : IsFlag (one_of (codes "json") rows) d.is_json
  pub excerpt : IsExcerptOf rows d.excerpt
  pub site : option_map string_bytes d.site ≡ first_of (codes "site") rows
  pub report : option_map string_bytes d.report ≡ first_of (codes "report") rows
