use Rattle.std.proofs.Common.{rules}
use Rattle.std.proofs.lemmas.Result.{err_from_is_err_and}
use Rattle.script.proofs.StepLaws.{issue_refused}
use Rattle.script.proofs.line.issue.Goals as goal

pub returns-in_err-request-clause-refused : goal.returns-in_err-request-clause-refused
returns-in_err-request-clause-refused g c =
    let p = err_from_is_err_and c.from_residual-in_err-request.result c.from_residual-in_err-request.ensures.1 in
    rw (p.1, p.2) (issue_refused _ c.args.words.now c.in_ok-client.client c.in_ok-instance.instance _ (search rules) (search rules) (search rules)
    (search rules) (search rules))
