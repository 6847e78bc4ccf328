use Rattle.priority.proofs.SlotLaws.{first_in_force, in_force_first}
use Rattle.priority.proofs.laws.first_is_in_force.Goals as goal

pub returns : goal.returns
returns g c = λ slots value. (first_in_force slots value, in_force_first slots value)
