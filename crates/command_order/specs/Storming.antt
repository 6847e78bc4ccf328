-- The command line of a storm, and what its words ask for.
use Rattle.std.specs.Prelude.{◌≡◌, List, codes, option_map, string_bytes}
use Rattle.clap.specs.Words.{App, Row, first_of, one_of, with_rule}
use Rattle.command_order.specs.Words.{IsFlag, at_site, flag_rule, names_rule, option_rule, required_rule}
use Rattle.command_order.specs.Words.{script_file_rule, word_of}
use Rattle.command_order.specs.declared.storming.Percents.{Percents}
use Rattle.command_order.specs.declared.storming.Storming.{Storming}

-- the subcommand with the words that have to be there
abbrev pub named : App
named =
    with_rule (with_rule (at_site (codes "storm")) (required_rule (codes "seed"))) (required_rule (codes "steps"))

-- .. with how often something begins, is lost and is repeated
abbrev pub with_losses : App → App
with_losses app =
    with_rule (with_rule (with_rule app (option_rule (codes "issue"))) (option_rule (codes "lose")))
    (option_rule (codes "repeat"))

-- .. and with how often there is another order, damage and a restart
abbrev pub with_chances : App → App
with_chances app =
    with_rule (with_rule (with_rule (with_losses app) (option_rule (codes "reorder")))
    (option_rule (codes "damage"))) (option_rule (codes "restart"))

-- the subcommand that goes on at random behind a script: storm SITE SCRIPT --seed N --steps N, with chances of its own,
-- a file for its script, counts in place of entries, and names in place of numbers
abbrev pub storm : App
storm =
    with_rule (with_rule (with_rule (with_chances named) script_file_rule) (flag_rule (codes "count"))) names_rule

-- the chances are those that are given
pub record ArePercentsOf (rows : List Row) (p : Percents) : Type 0 where
  pub issue : option_map string_bytes p.issue ≡ first_of (codes "issue") rows
  pub lose : option_map string_bytes p.lose ≡ first_of (codes "lose") rows
  pub repeat : option_map string_bytes p.repeat ≡ first_of (codes "repeat") rows
  pub reorder : option_map string_bytes p.reorder ≡ first_of (codes "reorder") rows
  pub damage : option_map string_bytes p.damage ≡ first_of (codes "damage") rows
  pub restart : option_map string_bytes p.restart ≡ first_of (codes "restart") rows

-- the storm is of the files and numbers that are given, writes its script where a file is named, and is counted, and
-- printed by names, where that is asked for
pub record IsStormingOf (rows : List Row) (s : Storming) : Type 0 where
  pub site : string_bytes s.site ≡ word_of (codes "site") rows
  pub script : string_bytes s.script ≡ word_of (codes "script") rows
  pub seed : string_bytes s.seed ≡ word_of (codes "seed") rows
  pub steps : string_bytes s.steps ≡ word_of (codes "steps") rows
  pub percents : ArePercentsOf rows s.percents
  pub file : option_map string_bytes s.file ≡ first_of (codes "file") rows
  pub count : IsFlag (one_of (codes "count") rows) s.is_counted
  pub names : IsFlag (one_of (codes "names") rows) s.is_named
