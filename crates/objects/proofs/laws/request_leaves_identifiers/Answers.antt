use Rattle.objects.proofs.ChangeLaws.{identifiers-after}
use Rattle.objects.proofs.laws.request_leaves_identifiers.Goals as goal

pub returns : goal.returns
returns g c = identifiers-after
