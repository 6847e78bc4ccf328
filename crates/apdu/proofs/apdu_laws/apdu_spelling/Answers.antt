use Rattle.apdu.proofs.ApduLaws.{one_apdu}
use Rattle.apdu.proofs.CanonicalLaws.{canonical_spells}
use Rattle.apdu.proofs.RefusalLaws.{refused_once, short_is_begun}
use Rattle.apdu.proofs.ShortestLaws.{canonical_shortest}
use Rattle.apdu.proofs.apdu_laws.apdu_spelling.Goals as goal

pub returns-clause-one : goal.returns-clause-one
returns-clause-one c = one_apdu

pub returns-clause-canonical : goal.returns-clause-canonical
returns-clause-canonical c = canonical_spells

pub returns-clause-refused : goal.returns-clause-refused
returns-clause-refused c = refused_once

pub returns-clause-short : goal.returns-clause-short
returns-clause-short c = short_is_begun

pub returns-clause-shortest : goal.returns-clause-shortest
returns-clause-shortest c = canonical_shortest
