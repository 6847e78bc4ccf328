use Rattle.objects.proofs.ChangeLaws.{types-after}
use Rattle.objects.proofs.laws.request_leaves_types.Goals as goal

pub returns : goal.returns
returns g c = types-after
