use Rattle.apdu.proofs.ShortestLaws.{who_is_shortest}
use Rattle.apdu.proofs.UnconfirmedLaws.{one_who_is, who_is_spelled}
use Rattle.apdu.proofs.apdu_laws.who_is_spelling.Goals as goal

pub returns-clause-one : goal.returns-clause-one
returns-clause-one c = one_who_is

pub returns-clause-canonical : goal.returns-clause-canonical
returns-clause-canonical c = who_is_spelled

pub returns-clause-shortest : goal.returns-clause-shortest
returns-clause-shortest c = who_is_shortest
