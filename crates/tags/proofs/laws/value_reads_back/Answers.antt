use Rattle.tags.proofs.CanonicalLaws.{value_reads_back}
use Rattle.tags.proofs.laws.value_reads_back.Goals as goal

pub returns : goal.returns
returns g c = value_reads_back
