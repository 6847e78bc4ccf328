use Rattle.carry_world.proofs.Promised.{all_hear, all_said}
use Rattle.carry_world.proofs.all_is_said.Goals as goal

pub returns : goal.returns
returns g c = record { things = all_said; heard = all_hear }
