use Rattle.headline_server.proofs.Waking.{restart_refines, restart_keeps}
use Rattle.headline_server.proofs.restart_refines.Goals as goal

pub returns-clause-refined : goal.returns-clause-refined
returns-clause-refined g c = restart_refines

pub returns-clause-kept : goal.returns-clause-kept
returns-clause-kept g c = restart_keeps
