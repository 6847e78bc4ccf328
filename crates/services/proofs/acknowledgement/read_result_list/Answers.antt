use Rattle.services.proofs.Exits.{exit_stop}
use Rattle.services.proofs.NoReply.{results_go_on, results_stop}
use Rattle.services.proofs.OneReply.{result_shortens}
use Rattle.services.proofs.acknowledgement.read_result_list.Goals as goal

pub returns-in_err-result-clause-none : goal.returns-in_err-result-clause-none
returns-in_err-result-clause-none g c =
    exit_stop _ _ c.from_residual.result _ c.from_residual.ensures.1 c.in_err-result.ensures.none
    (λ reason h. results_stop c.args.reader.now c.loop-results.reader c.loop-results.results c.loop-results.invariant h)

pub loop-results-smaller : goal.loop-results-smaller
loop-results-smaller g c = result_shortens c.loop-results.reader c.in-Some.result c.next_result.new.reader (rw c.in-Some.is at c.in_ok-result.ensures.read)

pub loop-results-preserved : goal.loop-results-preserved
loop-results-preserved g c =
    let taken = rw c.in-Some.is at c.in_ok-result.ensures.read in
    let sound = rw c.in-Some.is at c.in_ok-result.ensures.sound in
    rw (c.in_ok-push.ensures.pushed) (results_go_on c.args.reader.now c.loop-results.reader c.next_result.new.reader c.loop-results.results c.in-Some.result
    c.loop-results.invariant taken sound)
