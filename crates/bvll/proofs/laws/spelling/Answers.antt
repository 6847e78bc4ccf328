use Rattle.bvll.proofs.Unique.{canonical_spells, one_datagram}
use Rattle.bvll.proofs.Causes.{refused_once}
use Rattle.bvll.proofs.laws.spelling.Goals as goal

pub returns : goal.returns
returns c = record { one = one_datagram; canonical = canonical_spells; refused = refused_once }
