use Rattle.objects.proofs.ReadBackLaws.{present_is_in_force}
use Rattle.objects.proofs.laws.present_is_in_force.Goals as goal

pub returns : goal.returns
returns g c = present_is_in_force
