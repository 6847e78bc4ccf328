use Rattle.std.proofs.Common.{◌∙◌}
use Rattle.std.proofs.lemmas.Result.{err_from_is_err_and}
use Rattle.npdu.proofs.HeaderLaws.{refuses_place, refuses_source, cut_at_hops, cut_at_message}
use Rattle.npdu.proofs.header.fields_from.Goals as goal

pub returns-in_err-place-clause-fault : goal.returns-in_err-place-clause-fault
returns-in_err-place-clause-fault c =
    let p = err_from_is_err_and c.from_residual.result c.from_residual.ensures.1 in
    rw (p.1, p.2) (refuses_place _ c.args.control _ (rw c.control_in-control.ensures.destination at c.in_err-place.ensures.fault))

pub returns-in_err-source-clause-fault : goal.returns-in_err-source-clause-fault
returns-in_err-source-clause-fault c =
    let p = err_from_is_err_and c.from_residual-in_err-source.result c.from_residual-in_err-source.ensures.1 in
    rw (p.1, p.2) (refuses_source _ c.args.control _ _ _ (rw c.control_in-control.ensures.destination at c.in_ok-place.ensures.read)
    (rw c.control_in-control.ensures.source at c.in_err-source.ensures.fault))

pub returns-in_err-destination-clause-fault : goal.returns-in_err-destination-clause-fault
returns-in_err-destination-clause-fault c =
    let p = err_from_is_err_and c.from_residual-in_err-destination.result c.from_residual-in_err-destination.ensures.1 in
    rw (p.1, p.2 ∙ c.in_err-destination.ensures.fault)
    (cut_at_hops c.args.control _ _ _ _ _ (rw c.control_in-control.ensures.destination at c.in_ok-place.ensures.read)
    (rw c.control_in-control.ensures.source at c.in_ok-source.ensures.read) c.in_err-destination.ensures.cut)

pub returns-in_err-message-clause-fault : goal.returns-in_err-message-clause-fault
returns-in_err-message-clause-fault c =
    let p = err_from_is_err_and c.from_residual-in_err-message.result c.from_residual-in_err-message.ensures.1 in
    rw (p.1, p.2 ∙ c.in_err-message.ensures.fault)
    (cut_at_message c.args.control _ _ _ _ _ _ _ (rw c.control_in-control.ensures.destination at c.in_ok-place.ensures.read)
    (rw c.control_in-control.ensures.source at c.in_ok-source.ensures.read) c.in_ok-destination.ensures.read
    (rw c.control_in-control.ensures.message at c.in_err-message.ensures.cut))
