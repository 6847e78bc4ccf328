use Rattle.std.proofs.Common.{refl}
use Rattle.bbmd.proofs.Worked.{two_subnets_full}
use Rattle.bbmd.proofs.spreading.two_subnets.Goals as goal

pub returns-clause-full : goal.returns-clause-full
returns-clause-full g c = two_subnets_full

pub returns-clause-heard : goal.returns-clause-heard
returns-clause-heard g c = refl
