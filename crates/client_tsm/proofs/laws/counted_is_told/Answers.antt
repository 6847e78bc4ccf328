use Rattle.client_tsm.proofs.Telling as telling
use Rattle.client_tsm.proofs.laws.counted_is_told.Goals as goal

pub returns : goal.returns
returns g c = telling.counted_is_told
