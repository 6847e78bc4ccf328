use Rattle.npdu.proofs.FieldLaws.{no_octet, hops_begin}
use Rattle.npdu.proofs.fields.hops_from.Goals as goal

pub returns-in-empty-clause-cut : goal.returns-in-empty-clause-cut
returns-in-empty-clause-cut c = rw (no_octet c.args.octets.now c.in-empty.len_below) (hops_begin _)
