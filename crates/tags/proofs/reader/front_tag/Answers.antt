use Rattle.std.proofs.Common.{arith}
use Rattle.tags.proofs.TagLaws.{read_is_spelled, refused_has_no_tag}
use Rattle.tags.proofs.FaultLaws.{refused_for_its_cause}
use Rattle.tags.proofs.reader.front_tag.Goals as goal

pub returns-clause-read : goal.returns-clause-read
returns-clause-read c = read_is_spelled c.args.octets.now c.tag_from.result (λ i. omega (arith, c.type_inv.octets i)) c.tag_from.ensures

pub returns-clause-refused : goal.returns-clause-refused
returns-clause-refused c = refused_has_no_tag c.args.octets.now c.tag_from.result c.tag_from.ensures

pub returns-clause-fault : goal.returns-clause-fault
returns-clause-fault c = refused_for_its_cause c.args.octets.now c.tag_from.result (λ i. omega (arith, c.type_inv.octets i)) c.tag_from.ensures
