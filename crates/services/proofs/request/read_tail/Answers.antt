use Rattle.services.proofs.Exits.{exit_same}
use Rattle.services.specs.Requests.{at_range, at_end}
use Rattle.services.proofs.request.read_tail.Goals as goal

pub returns-in_err-priority-clause-rejected : goal.returns-in_err-priority-clause-rejected
returns-in_err-priority-clause-rejected c =
    exit_same _ c.from_residual-in_err-priority.result _ c.from_residual-in_err-priority.ensures.1
    (at_range c.in_ok-number.number c.read_last.new.reader c.in_ok-number.ensures.read c.in_err-priority.ensures.rejected)

pub returns-in_err-read_end-clause-rejected : goal.returns-in_err-read_end-clause-rejected
returns-in_err-read_end-clause-rejected c =
    exit_same _ c.from_residual-in_err-read_end.result _ c.from_residual-in_err-read_end.ensures.1
    (at_end c.in_ok-number.number c.read_last.new.reader c.in_ok-number.ensures.read c.in_ok-priority.ensures.read.1 c.in_err-read_end.ensures.rejected)
