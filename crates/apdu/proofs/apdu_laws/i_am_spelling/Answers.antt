use Rattle.apdu.proofs.ShortestLaws.{i_am_shortest}
use Rattle.apdu.proofs.UnconfirmedLaws.{one_i_am, i_am_spelled}
use Rattle.apdu.proofs.apdu_laws.i_am_spelling.Goals as goal

pub returns-clause-one : goal.returns-clause-one
returns-clause-one c = one_i_am

pub returns-clause-canonical : goal.returns-clause-canonical
returns-clause-canonical c = i_am_spelled

pub returns-clause-shortest : goal.returns-clause-shortest
returns-clause-shortest c = i_am_shortest
