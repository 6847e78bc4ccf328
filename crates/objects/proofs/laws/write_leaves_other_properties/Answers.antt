use Rattle.objects.proofs.OneThingLaws.{read_own}
use Rattle.objects.proofs.laws.write_leaves_other_properties.Goals as goal

pub returns : goal.returns
returns g c = read_own
