use Rattle.headline_server.proofs.Waking.{wake_refines, wake_keeps}
use Rattle.headline_server.proofs.wake_refines.Goals as goal

pub returns-clause-refined : goal.returns-clause-refined
returns-clause-refined g c = wake_refines

pub returns-clause-kept : goal.returns-clause-kept
returns-clause-kept g c = wake_keeps
