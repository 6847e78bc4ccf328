use Rattle.services.proofs.Exits.{exit_stop}
use Rattle.services.proofs.FieldLaws.{false_is_not_true}
use Rattle.services.proofs.NoReply.{many_go_on, many_stop}
use Rattle.services.proofs.acknowledgement.read_many_ack.Goals as goal

pub returns-in_err-read_results-clause-none : goal.returns-in_err-read_results-clause-none
returns-in_err-read_results-clause-none g c =
    exit_stop _ _ c.from_residual.result _ c.from_residual.ensures.1 c.in_err-read_results.ensures.none
    (λ reason h. many_stop c.args.reader.now c.loop-alloc.reader c.loop-alloc.all c.loop-alloc.invariant
    (λ e. false_is_not_true (c.loop-alloc-test.ensures.end.1 e)) h)

pub loop-alloc-preserved : goal.loop-alloc-preserved
loop-alloc-preserved g c = rw (c.in_ok-push.ensures.pushed)
    (many_go_on c.args.reader.now c.loop-alloc.reader c.read_results.new.reader c.loop-alloc.all c.in_ok-read_results.field-0 c.loop-alloc.invariant
    c.in_ok-read_results.ensures.read c.in_ok-read_results.ensures.sound)
