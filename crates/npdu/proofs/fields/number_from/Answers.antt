use Rattle.std.proofs.Common.{arith}
use Rattle.npdu.proofs.FieldLaws.{begins_number}
use Rattle.npdu.proofs.fields.number_from.Goals as goal

pub returns-in_default-clause-cut : goal.returns-in_default-clause-cut
returns-in_default-clause-cut c = begins_number c.args.octets.now c.in_default.len_below (λ i. omega (arith, c.type_inv.octets i))
