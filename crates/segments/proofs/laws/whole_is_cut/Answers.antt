use Rattle.segments.proofs.ReceiverLaws as laws
use Rattle.segments.proofs.laws.whole_is_cut.Goals as goal

pub returns-clause-one : goal.returns-clause-one
returns-clause-one c = laws.keeps_front

pub returns-clause-all : goal.returns-clause-all
returns-clause-all c = laws.whole_is_cut
