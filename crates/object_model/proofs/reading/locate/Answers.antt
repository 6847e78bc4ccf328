use Rattle.std.proofs.Common.{arith}
use Rattle.std.proofs.lemmas.Grind.{common_steps}
use Rattle.object_model.proofs.ReadLaws.{refused_by_length}
use Rattle.primitives.specs.Properties.{is_array}
use Rattle.object_model.proofs.reading.locate.Goals as goal

pub returns-in-Some-refused_index-clause-refused : goal.returns-in-Some-refused_index-clause-refused
returns-in-Some-refused_index-clause-refused g c =
    grind (arith, common_steps, refused_by_length (is_array c.in-Some.property) c.elements.result _ c.args.index c.elements.ensures.count)
