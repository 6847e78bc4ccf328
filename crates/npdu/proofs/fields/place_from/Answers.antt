use Rattle.std.proofs.Common.{rules, arith, ◌∙◌}
use Rattle.std.proofs.lemmas.Result.{err_from_is_err_and}
use Rattle.npdu.proofs.FieldLaws.{only_place, begins_place-mac}
use Rattle.npdu.proofs.fields.place_from.Goals as goal

pub returns-in_err-mac-clause-fault : goal.returns-in_err-mac-clause-fault
returns-in_err-mac-clause-fault c =
    let p = err_from_is_err_and c.from_residual-in_err-mac.result c.from_residual-in_err-mac.ensures.1 in
    rw (p.1, p.2 ∙ c.in_err-mac.ensures.fault, c.if-not-present.false)
    (begins_place-mac c.args.octets.now c.from-net.result c.in_ok-net.rest.now (c.from-net.ensures.1 (omega (arith, c.if-net-eq0.false)))
    (rw (c.from-net.ensures.0) c.in_ok-net.ensures.read) c.in_err-mac.ensures.cut)

pub returns-clause-only : goal.returns-clause-only
returns-clause-only c = only_place c.args.present c.args.octets.now _ _ (search rules)
