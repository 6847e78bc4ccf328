use Rattle.objects.proofs.ReadBackLaws.{reads_back}
use Rattle.objects.proofs.laws.write_reads_back.Goals as goal

pub returns : goal.returns
returns g c = reads_back
