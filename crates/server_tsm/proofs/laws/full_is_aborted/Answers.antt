use Rattle.server_tsm.proofs.Planned.{full_is_aborted}
use Rattle.server_tsm.proofs.laws.full_is_aborted.Goals as goal

pub returns : goal.returns
returns g c = full_is_aborted
