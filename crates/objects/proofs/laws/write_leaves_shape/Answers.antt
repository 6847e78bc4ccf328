use Rattle.objects.proofs.ShapeLaws.{one_shape-write}
use Rattle.objects.proofs.laws.write_leaves_shape.Goals as goal

pub returns : goal.returns
returns g c = one_shape-write
