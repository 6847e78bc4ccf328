use Rattle.npdu.proofs.SpellingLaws.{one_header, one_fault}
use Rattle.npdu.proofs.laws.one_header.Goals as goal

pub returns-clause-header : goal.returns-clause-header
returns-clause-header c = one_header

pub returns-clause-fault : goal.returns-clause-fault
returns-clause-fault c = one_fault
