use Rattle.carry_world.proofs.Executed.{whole_is_executed}
use Rattle.carry_world.proofs.answers_are_whole.Goals as goal

pub returns : goal.returns
returns g c = whole_is_executed
