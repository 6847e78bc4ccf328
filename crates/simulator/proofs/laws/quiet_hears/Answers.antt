use Rattle.simulator.proofs.QuietLaws.{quiet_hears}
use Rattle.simulator.proofs.laws.quiet_hears.Goals as goal

pub returns : goal.returns
returns g c = quiet_hears
