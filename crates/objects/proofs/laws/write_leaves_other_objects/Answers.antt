use Rattle.objects.proofs.OneThingLaws.{write_other}
use Rattle.objects.proofs.laws.write_leaves_other_objects.Goals as goal

pub returns : goal.returns
returns g c = write_other
