use Rattle.std.proofs.Common.{List, rules, subst}
use Rattle.clap.specs.Words.{Row, found_of, rows_of, subcommand_rows_of}
use Rattle.command_order.specs.Order.{IsLiveRunOf}
use Rattle.command_order.specs.Simulating.{IsSimulationOf}
use Rattle.command_order.specs.Storming.{IsStormingOf}
use Rattle.command_order.proofs.OrderLaws.{rows_found}
use Rattle.command_order.proofs.order.site_order_in.Goals as goal

pub returns-in-Some : goal.returns-in-Some
returns-in-Some c =
    let read = rows_found (subcommand_rows_of c.args.matches.now)
    (rows_of (found_of c.in-Some.sim.now)) c.in-Some.ensures.rows in (
      search rules,
      subst (λ (rows : List Row). IsSimulationOf rows c.in_ok-simulation_in.field-0) read c.in_ok-simulation_in.ensures,
    )

pub returns-in-Some-subcommand_matches : goal.returns-in-Some-subcommand_matches
returns-in-Some-subcommand_matches c =
    let read = rows_found (subcommand_rows_of c.args.matches.now)
    (rows_of (found_of c.in-Some-subcommand_matches.storm.now)) c.in-Some-subcommand_matches.ensures.rows in (
      search rules,
      subst (λ (rows : List Row). IsStormingOf rows c.in_ok-storming_in.field-0) read c.in_ok-storming_in.ensures,
    )

pub returns-in-Some-subcommand_matches-3 : goal.returns-in-Some-subcommand_matches-3
returns-in-Some-subcommand_matches-3 c =
    let read = rows_found (subcommand_rows_of c.args.matches.now)
    (rows_of (found_of c.in-Some-subcommand_matches-3.run'.now)) c.in-Some-subcommand_matches-3.ensures.rows in (
      search rules,
      subst (λ (rows : List Row). IsLiveRunOf rows c.in_ok-live_run_in.field-0) read c.in_ok-live_run_in.ensures,
    )
