use Rattle.objects.proofs.ReadBackLaws.{command_shows}
use Rattle.objects.proofs.laws.command_shows.Goals as goal

pub returns : goal.returns
returns g c = command_shows
