use Rattle.priority.proofs.SlotLaws.{same_slots}
use Rattle.priority.proofs.laws.same_at_each_level.Goals as goal

pub returns : goal.returns
returns g c = same_slots
