use Rattle.carry.proofs.Passed.{network_message_passes_on}
use Rattle.carry.proofs.laws.network_message_passes_on.Goals as goal

pub returns : goal.returns
returns g c = network_message_passes_on
