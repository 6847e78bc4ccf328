use Rattle.objects.proofs.ShapeLaws.{one_refusal}
use Rattle.objects.proofs.laws.shape_refuses.Goals as goal

pub returns : goal.returns
returns g c = one_refusal
