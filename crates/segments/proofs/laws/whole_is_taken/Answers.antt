use Rattle.segments.proofs.ReceiverLaws as laws
use Rattle.segments.proofs.laws.whole_is_taken.Goals as goal

pub returns : goal.returns
returns c = laws.whole_is_taken
