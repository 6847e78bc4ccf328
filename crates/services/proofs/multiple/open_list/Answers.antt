use Rattle.services.proofs.Exits.{exit_same}
use Rattle.services.specs.Multiple.{at_opening}
use Rattle.services.proofs.multiple.open_list.Goals as goal

pub returns-in_err-read_opening-clause-rejected : goal.returns-in_err-read_opening-clause-rejected
returns-in_err-read_opening-clause-rejected c =
    exit_same _ c.from_residual-in_err-read_opening.result _ c.from_residual-in_err-read_opening.ensures.1
    (at_opening c.in_ok-object.object c.read_object.new.reader c.in_ok-object.ensures.read c.in_err-read_opening.ensures.rejected)
