use Rattle.bbmd.proofs.Apart.{full_are_apart}
use Rattle.bbmd.proofs.laws.full_are_apart.Goals as goal

pub returns : goal.returns
returns g c = full_are_apart
