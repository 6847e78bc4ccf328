use Rattle.mstp_table.proofs.Hearing.{queued_waits}
use Rattle.mstp_table.proofs.Rounds.{queue_came, queue_is_kept}
use Rattle.mstp_table.proofs.laws.queue_is_kept.Goals as goal

pub returns-clause-kept : goal.returns-clause-kept
returns-clause-kept g c = queue_is_kept

pub returns-clause-came : goal.returns-clause-came
returns-clause-came g c = queue_came

pub returns-clause-queued : goal.returns-clause-queued
returns-clause-queued g c = queued_waits
