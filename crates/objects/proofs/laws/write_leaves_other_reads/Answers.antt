use Rattle.objects.proofs.OneThingLaws.{read_other}
use Rattle.objects.proofs.laws.write_leaves_other_reads.Goals as goal

pub returns : goal.returns
returns g c = read_other
