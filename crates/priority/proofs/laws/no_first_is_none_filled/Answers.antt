use Rattle.priority.proofs.SlotLaws.{no_first_none_filled, none_filled_no_first}
use Rattle.priority.proofs.laws.no_first_is_none_filled.Goals as goal

pub returns : goal.returns
returns g c = λ slots. (no_first_none_filled slots, none_filled_no_first slots)
