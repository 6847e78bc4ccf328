use Rattle.site_reach.proofs.Full.{tables_full}
use Rattle.site_reach.proofs.laws.tables_are_full.Goals as goal

pub returns : goal.returns
returns g c = tables_full
