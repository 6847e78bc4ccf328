use Rattle.tags.proofs.ValueLaws.{one_value}
use Rattle.tags.proofs.laws.one_value.Goals as goal

pub returns : goal.returns
returns g c = one_value
