use Rattle.command_line.proofs.EndingLaws.{ended_simulated}
use Rattle.command_line.proofs.simulating.sim_shown.Goals as goal

pub returns-then-simulation : goal.returns-then-simulation
returns-then-simulation g c =
    ended_simulated _ _ _ _ _ _ _ _ (c.if-simulation.true) c.sim_files-status.ensures c.ended.ensures
