use Rattle.services.proofs.Exits.{exit_reason, exit_stop}
use Rattle.services.specs.Multiple.{at_list, at_references}
use Rattle.services.proofs.multiple.read_refs.Goals as goal

pub returns-in_err-object-clause-rejected : goal.returns-in_err-object-clause-rejected
returns-in_err-object-clause-rejected g c =
    exit_reason _ c.from_residual.result _ c.from_residual.ensures.1 (at_list c.in_err-object.ensures.rejected)

pub returns-in_err-refs-clause-rejected : goal.returns-in_err-refs-clause-rejected
returns-in_err-refs-clause-rejected g c =
    exit_stop _ _ c.from_residual-in_err-refs.result _ c.from_residual-in_err-refs.ensures.1 c.in_err-refs.ensures.rejected
    (λ reason h. at_references c.in_ok-object.object c.open_list.new.reader c.in_ok-object.ensures.read h)
