use Rattle.inside.proofs.Insides.{network_message_has_nothing}
use Rattle.inside.proofs.laws.network_message_has_nothing.Goals as goal

pub returns : goal.returns
returns g c = network_message_has_nothing
