use Rattle.objects.proofs.ChangeLaws.{names-after}
use Rattle.objects.proofs.laws.request_leaves_names.Goals as goal

pub returns : goal.returns
returns g c = names-after
