use Rattle.mstp_table.proofs.Hearing.{idles_until_due}
use Rattle.mstp_table.proofs.laws.idles_until_due.Goals as goal

pub returns : goal.returns
returns g c = idles_until_due
