use Rattle.unitdata.proofs.BringLaws.{announced_is_brought, spoken_is_brought}
use Rattle.unitdata.proofs.laws.spoken_is_brought.Goals as goal

pub returns-clause-spoken : goal.returns-clause-spoken
returns-clause-spoken c = spoken_is_brought

pub returns-clause-announced : goal.returns-clause-announced
returns-clause-announced c = announced_is_brought
