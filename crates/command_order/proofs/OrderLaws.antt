-- What a subcommand's rows are.
use Rattle.std.proofs.Common.{◌≡◌, List, Option, None, Some, sym, option_map}
use Rattle.std.proofs.lemmas.Option.{none-some, same_Some}
use Rattle.clap.specs.Words.{Row, Text}
use Rattle.command_order.specs.Order.{rows_in}

-- the rows that are found of it are the ones behind its name
pub rows_found : (found : Option (Text × List Row)) (rows : List Row) →
    option_map (λ p. p.1) found ≡ Some rows → rows ≡ rows_in found
rows_found None rows e = absurd (none-some rows e)
rows_found (Some p) rows e = sym (same_Some p.1 rows e)
