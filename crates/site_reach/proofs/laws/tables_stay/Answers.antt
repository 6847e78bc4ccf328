use Rattle.site_reach.proofs.Stays.{tables_stay}
use Rattle.site_reach.proofs.laws.tables_stay.Goals as goal

pub returns : goal.returns
returns g c = tables_stay
