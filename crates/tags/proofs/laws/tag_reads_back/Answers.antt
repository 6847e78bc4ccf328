use Rattle.tags.proofs.CanonicalLaws.{tag_reads_back}
use Rattle.tags.proofs.laws.tag_reads_back.Goals as goal

pub returns : goal.returns
returns c = tag_reads_back
