use Rattle.services.proofs.Exits.{exit_same}
use Rattle.services.specs.Requests.{at_property}
use Rattle.services.proofs.request.read_property.Goals as goal

pub returns-in_err-property-clause-rejected : goal.returns-in_err-property-clause-rejected
returns-in_err-property-clause-rejected c =
    exit_same _ c.from_residual-in_err-property.result _ c.from_residual-in_err-property.ensures.1
    (at_property c.in_ok-object.object c.read_object.new.reader c.in_ok-object.ensures.read c.in_err-property.ensures.rejected)
