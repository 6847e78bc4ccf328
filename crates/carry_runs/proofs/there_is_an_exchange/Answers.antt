use Rattle.carry_runs.proofs.Crossing.{has_exchange}
use Rattle.carry_runs.proofs.there_is_an_exchange.Goals as goal

pub returns : goal.returns
returns g c = has_exchange
