use Rattle.carry_ends.proofs.Ends.{wakes_end}
use Rattle.carry_ends.proofs.wakes_end_what_is_overdue.Goals as goal

pub returns : goal.returns
returns g c = wakes_end
