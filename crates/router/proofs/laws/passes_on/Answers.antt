use Rattle.router.proofs.PassLaws.{announces, passes_on}
use Rattle.router.proofs.laws.passes_on.Goals as goal

pub returns-clause-heard : goal.returns-clause-heard
returns-clause-heard g c = passes_on _

pub returns-clause-woken : goal.returns-clause-woken
returns-clause-woken g c = announces _
