use Rattle.carry.proofs.Frames.{stamp_is_borne}
use Rattle.carry.proofs.laws.stamp_is_borne.Goals as goal

pub returns : goal.returns
returns g c = stamp_is_borne
