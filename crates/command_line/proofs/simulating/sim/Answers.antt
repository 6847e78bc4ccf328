use Rattle.std.proofs.Common.{arith, rules}
use Rattle.command_line.proofs.BesideLaws.{failed_beside, on_output}
use Rattle.command_line.proofs.simulating.sim.Goals as goal

pub returns-then-not-is_any_standard : goal.returns-then-not-is_any_standard
returns-then-not-is_any_standard g c =
    on_output _ _ _ _ _ _ _ _ _ _ c.outputs_of.ensures (c.is_any_standard.ensures.none (search rules))
    c.sim_shown.ensures

pub returns : goal.returns
returns g c =
    failed_beside _ _ _ _ _ _ _ _ _ _ _ c.outputs_of.ensures (c.is_any_standard.ensures.any (search rules))
    (λ ended. omega (arith, ended, c.if-status-eq0.false)) c.sim_shown-status.ensures
