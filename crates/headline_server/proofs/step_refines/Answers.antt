use Rattle.headline_server.proofs.Executing.{step_refines, step_keeps}
use Rattle.headline_server.proofs.step_refines.Goals as goal

pub returns-clause-refined : goal.returns-clause-refined
returns-clause-refined g c = step_refines

pub returns-clause-kept : goal.returns-clause-kept
returns-clause-kept g c = step_keeps
