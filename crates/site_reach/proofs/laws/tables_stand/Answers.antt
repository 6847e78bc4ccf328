use Rattle.site_reach.proofs.Opening.{tables_stand}
use Rattle.site_reach.proofs.laws.tables_stand.Goals as goal

pub returns : goal.returns
returns g c = tables_stand
