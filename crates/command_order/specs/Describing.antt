-- The words of the commands that describe the program.
use Rattle.std.specs.Prelude.{List, Some, codes, true}
use Rattle.clap.specs.Words.{App, Row, Rule, new_app, new_rule, one_of, with_rule}
use Rattle.clap.specs.declared.builder.ArgAction.TheVariants.{Set}
use Rattle.command_order.specs.Words.{IsFlag, flag_rule}
use Rattle.command_order.specs.declared.describing.Stating.{Stating}

-- the subcommand that prints the conformance statement
abbrev pub pics : App
pics = with_rule (new_app (codes "pics")) (flag_rule (codes "markdown"))

-- the statement is printed as Markdown where that is asked for
pub record IsStatingOf (rows : List Row) (s : Stating) : Type 0 where
  pub markdown : IsFlag (one_of (codes "markdown") rows) s.is_markdown

-- a shell has to be named
abbrev pub shell_rule : Rule
shell_rule = record (new_rule (codes "shell")) { action = Some Set; value_names = 1; required = true }

-- the subcommand that prints completions: completions SHELL
abbrev pub completions : App
completions = with_rule (new_app (codes "completions")) shell_rule

-- the subcommand that prints the man page
abbrev pub man : App
man = new_app (codes "man")
