use Rattle.services.proofs.Exits.{exit_reason, exit_stop}
use Rattle.services.proofs.NoReply.{no_results_unopened, no_results_inside}
use Rattle.services.proofs.acknowledgement.read_results.Goals as goal

pub returns-in_err-object-clause-none : goal.returns-in_err-object-clause-none
returns-in_err-object-clause-none g c = exit_reason _ c.from_residual.result _ c.from_residual.ensures.1
    (no_results_unopened _ _ c.args.reader.now c.in_err-object.ensures.rejected)

pub returns-in_err-results-clause-none : goal.returns-in_err-results-clause-none
returns-in_err-results-clause-none g c =
    exit_stop _ _ c.from_residual-in_err-results.result _ c.from_residual-in_err-results.ensures.1 c.in_err-results.ensures.none
    (λ reason h. no_results_inside _ c.args.reader.now c.in_ok-object.object c.open_list.new.reader c.in_ok-object.ensures.read h)
