use Rattle.carry_world.proofs.Legal.{is_legal}
use Rattle.carry_world.proofs.Staying.{devices_stay}
use Rattle.carry_world.proofs.history_is_legal.Goals as goal

pub returns : goal.returns
returns g c = record { legal = is_legal; devices = devices_stay }
