use Rattle.buses.proofs.KnownLaws.{puts_are_known}
use Rattle.buses.proofs.laws.puts_are_known.Goals as goal

pub returns : goal.returns
returns g c = puts_are_known
