use Rattle.services.proofs.Exits.{exit_same}
use Rattle.services.specs.Requests.{at_property, at_index, at_end}
use Rattle.services.proofs.request.parameters_to_read.Goals as goal

pub returns-in_err-object-clause-rejected : goal.returns-in_err-object-clause-rejected
returns-in_err-object-clause-rejected c =
    exit_same _ c.from_residual.result _ c.from_residual.ensures.1 (at_property c.in_err-object.ensures.rejected)

pub returns-in_err-index-clause-rejected : goal.returns-in_err-index-clause-rejected
returns-in_err-index-clause-rejected c =
    exit_same _ c.from_residual-in_err-index.result _ c.from_residual-in_err-index.ensures.1
    (at_index c.in_ok-object.object c.in_ok-object.property c.read_property.new.reader c.in_ok-object.ensures.read c.in_err-index.ensures.rejected)

pub returns-in_err-read_end-clause-rejected : goal.returns-in_err-read_end-clause-rejected
returns-in_err-read_end-clause-rejected c =
    exit_same _ c.from_residual-in_err-read_end.result _ c.from_residual-in_err-read_end.ensures.1
    (at_end c.in_ok-object.object c.in_ok-object.property c.in_ok-index.index c.read_property.new.reader c.read_last.new.reader
    c.in_ok-object.ensures.read c.in_ok-index.ensures.read c.in_err-read_end.ensures.rejected)
