use Rattle.mstp_table.proofs.Rounds.{each_is_round}
use Rattle.mstp_table.proofs.laws.each_is_round.Goals as goal

pub returns : goal.returns
returns g c = each_is_round
