use Rattle.objects.proofs.ChangeLaws.{object_list-after}
use Rattle.objects.proofs.laws.request_leaves_object_list.Goals as goal

pub returns : goal.returns
returns g c = object_list-after
