use Rattle.std.proofs.lemmas.Result.{err_from_is_err_and}
use Rattle.site_node.proofs.drafting.wake_first.Goals as goal

pub returns-in_err-down_first-clause-cause : goal.returns-in_err-down_first-clause-cause
returns-in_err-down_first-clause-cause g c =
    let p = err_from_is_err_and c.from_residual.result c.from_residual.ensures.1 in
    rw (p.1) (rw (p.2) c.in_err-down_first.ensures.cause)
