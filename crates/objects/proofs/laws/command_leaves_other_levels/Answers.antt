use Rattle.objects.proofs.ReadBackLaws.{command_leaves_others}
use Rattle.objects.proofs.laws.command_leaves_other_levels.Goals as goal

pub returns : goal.returns
returns g c = command_leaves_others
