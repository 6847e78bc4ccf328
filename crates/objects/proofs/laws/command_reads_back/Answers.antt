use Rattle.objects.proofs.ReadBackLaws.{command_reads_back}
use Rattle.objects.proofs.laws.command_reads_back.Goals as goal

pub returns : goal.returns
returns g c = command_reads_back
