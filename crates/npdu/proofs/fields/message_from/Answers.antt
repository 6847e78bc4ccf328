use Rattle.std.proofs.Common.{arith, ◌-◌, length, take, drop, slice_index_or}
use Rattle.std.proofs.lemmas.Result.{err_from_is_err_and}
use Rattle.std.proofs.lemmas.Grind.{common_steps}
use Rattle.npdu.proofs.FieldLaws.{no_octet, message_begins, begins_message-vendor}
use Rattle.npdu.proofs.fields.message_from.Goals as goal

pub returns-in_default-clause-cut : goal.returns-in_default-clause-cut
returns-in_default-clause-cut c = rw (no_octet c.args.octets.now c.in_default.len_below) (message_begins c.args.present)

pub returns-in_err-vendor-clause-cut : goal.returns-in_err-vendor-clause-cut
returns-in_err-vendor-clause-cut c =
    let p = err_from_is_err_and c.from_residual.result c.from_residual.ensures.1 in
    rw (p.1, c.if-not-present.false) (begins_message-vendor c.args.octets.now (slice_index_or c.args.octets.now 0 0)
    (take (length c.args.octets.now - 1) (drop 1 c.args.octets.now)) (grind (arith, common_steps)) (omega (arith, c.if-kind-lt128.false))
    (omega (arith, c.type_inv.octets 0)) c.in_err-vendor.ensures.cut)
