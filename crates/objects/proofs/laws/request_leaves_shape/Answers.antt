use Rattle.objects.proofs.ChangeLaws.{one_shape-after}
use Rattle.objects.proofs.laws.request_leaves_shape.Goals as goal

pub returns : goal.returns
returns g c = one_shape-after
