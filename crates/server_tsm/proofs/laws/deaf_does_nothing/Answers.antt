use Rattle.server_tsm.proofs.Planned.{deaf_does_nothing}
use Rattle.server_tsm.proofs.laws.deaf_does_nothing.Goals as goal

pub returns : goal.returns
returns g c = deaf_does_nothing
