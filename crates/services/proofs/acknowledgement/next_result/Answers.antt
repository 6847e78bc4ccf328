use Rattle.services.proofs.Exits.{exit_reason, exit_stop}
use Rattle.services.proofs.NoReply.{no_result_next, no_result_behind}
use Rattle.services.proofs.acknowledgement.next_result.Goals as goal

pub returns-in_err-property-clause-none : goal.returns-in_err-property-clause-none
returns-in_err-property-clause-none g c =
    exit_reason _ c.from_residual.result _ c.from_residual.ensures.1 (no_result_next _ c.args.reader.now c.in_err-property.ensures.none)

pub returns-in_err-index-clause-none : goal.returns-in_err-index-clause-none
returns-in_err-index-clause-none g c =
    exit_stop _ _ c.from_residual-in_err-index.result _ c.from_residual-in_err-index.ensures.1 c.in_err-index.ensures.none
    (λ reason h. no_result_behind _ c.args.reader.now c.in-Some.property c.next_property.new.reader (rw c.in-Some.is at c.in_ok-property.ensures.read) h)
