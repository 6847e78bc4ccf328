use Rattle.mstp_table.proofs.Rounds.{keeps_place}
use Rattle.mstp_table.proofs.laws.keeps_place.Goals as goal

pub returns : goal.returns
returns g c = keeps_place
