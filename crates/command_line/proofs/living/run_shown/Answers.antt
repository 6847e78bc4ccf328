use Rattle.command_line.proofs.EndingLaws.{ended_live}
use Rattle.command_line.proofs.living.run_shown.Goals as goal

pub returns-then-run : goal.returns-then-run
returns-then-run g c =
    ended_live _ _ _ _ _ _ _ _ (c.if-run.true) c.run_files-status.ensures c.ended.ensures
