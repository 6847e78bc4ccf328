use Rattle.world_kept.proofs.KeptLaws.{kept_is_legal}
use Rattle.world_kept.proofs.kept_is_legal.Goals as goal

pub returns : goal.returns
returns g c = kept_is_legal
