-- The shells that have completions.
use Rattle.std.specs.Prelude.{List, ℕ, codes}
use Rattle.command_pages.specs.declared.shell.Shell.{Shell}
use Rattle.command_pages.specs.declared.shell.Shell.TheVariants.{Bash, Fish, Zsh}

-- the name of a shell
abbrev pub name_of : Shell → List ℕ
name_of Bash = codes "bash"
name_of Zsh = codes "zsh"
name_of Fish = codes "fish"
