use Rattle.unitdata.proofs.InsideLaws.{announced_is_inside, brought_is_inside, spoken_is_inside}
use Rattle.unitdata.proofs.laws.heard_and_said_is_inside.Goals as goal

pub returns-clause-heard : goal.returns-clause-heard
returns-clause-heard c = brought_is_inside

pub returns-clause-spoken : goal.returns-clause-spoken
returns-clause-spoken c = spoken_is_inside

pub returns-clause-announced : goal.returns-clause-announced
returns-clause-announced c = announced_is_inside
