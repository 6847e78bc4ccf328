use Rattle.services.proofs.Exits.{exit_reason, exit_stop}
use Rattle.services.specs.Requests.{at_write, at_tail}
use Rattle.services.proofs.request.request_to_write.Goals as goal

pub returns-in_err-object-clause-rejected : goal.returns-in_err-object-clause-rejected
returns-in_err-object-clause-rejected g c =
    exit_stop _ _ c.from_residual.result _ c.from_residual.ensures.1 c.in_err-object.ensures.rejected (λ reason h. at_write h)

pub returns-in_err-priority-clause-rejected : goal.returns-in_err-priority-clause-rejected
returns-in_err-priority-clause-rejected g c =
    exit_reason _ c.from_residual-in_err-priority.result _ c.from_residual-in_err-priority.ensures.1
    (at_tail c.in_ok-object.field-0.object c.in_ok-object.field-0.property c.in_ok-object.field-0.index c.in_ok-object.field-0.values
    c.parameters_to_write.new.reader c.in_ok-object.ensures.read c.in_err-priority.ensures.rejected)
