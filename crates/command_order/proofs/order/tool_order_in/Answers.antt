use Rattle.std.proofs.Common.{List, rules, subst}
use Rattle.clap.specs.Words.{Row, found_of, rows_of, subcommand_rows_of}
use Rattle.command_order.specs.Diagnosing.{IsDiagnosingOf}
use Rattle.command_order.proofs.OrderLaws.{rows_found}
use Rattle.command_order.proofs.order.tool_order_in.Goals as goal

pub returns-in-Some-subcommand_matches-2 : goal.returns-in-Some-subcommand_matches-2
returns-in-Some-subcommand_matches-2 c =
    let read = rows_found (subcommand_rows_of c.args.matches.now)
    (rows_of (found_of c.in-Some-subcommand_matches-2.diagnose.now)) c.in-Some-subcommand_matches-2.ensures.rows in (
      search rules,
      subst (λ (rows : List Row). IsDiagnosingOf rows c.in_ok-diagnosing_in.field-0) read c.in_ok-diagnosing_in.ensures,
    )
