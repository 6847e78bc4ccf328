-- The command line of a search, and what its words ask for.
use Rattle.std.specs.Prelude.{◌≡◌, List, codes, option_map, string_bytes}
use Rattle.clap.specs.Words.{App, Row, first_of, one_of, with_rule}
use Rattle.command_order.specs.Words.{IsFlag, at_site, names_rule, option_rule, required_rule, word_of}
use Rattle.command_order.specs.declared.searching.Searching.{Searching}

-- the subcommand that seeks what may come behind a script: search SITE SCRIPT --until WORDS, with a depth, and
-- with names in place of numbers
abbrev pub search : App
search =
    with_rule (with_rule (with_rule (at_site (codes "search")) (required_rule (codes "until")))
    (option_rule (codes "depth"))) names_rule

-- the search is behind the files that are named, for the words that are given, as deep as is told, and printed by names
-- where that is asked for
pub record IsSearchingOf (rows : List Row) (s : Searching) : Type 0 where
  pub site : string_bytes s.site ≡ word_of (codes "site") rows
  pub script : string_bytes s.script ≡ word_of (codes "script") rows
  pub until : string_bytes s.until ≡ word_of (codes "until") rows
  pub depth : option_map string_bytes s.depth ≡ first_of (codes "depth") rows
  pub names : IsFlag (one_of (codes "names") rows) s.is_named
