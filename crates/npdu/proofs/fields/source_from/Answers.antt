use Rattle.std.proofs.Common.{rules, ◌∙◌}
use Rattle.std.proofs.lemmas.Result.{err_from_is_err_and}
use Rattle.npdu.proofs.FieldLaws.{begins_source-mac}
use Rattle.npdu.proofs.fields.source_from.Goals as goal

pub returns-in_err-mac-clause-fault : goal.returns-in_err-mac-clause-fault
returns-in_err-mac-clause-fault c =
    let p = err_from_is_err_and c.from_residual-in_err-mac.result c.from_residual-in_err-mac.ensures.1 in
    rw (p.1, p.2 ∙ c.in_err-mac.ensures.fault, c.if-not-present.false)
    (begins_source-mac c.args.octets.now c.in_ok-net.net c.in_ok-net.rest.now (search rules) c.in_ok-net.ensures.read c.in_err-mac.ensures.cut)
