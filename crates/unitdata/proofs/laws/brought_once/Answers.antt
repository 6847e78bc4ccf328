use Rattle.unitdata.proofs.OnceLaws.{brought_once}
use Rattle.unitdata.proofs.laws.brought_once.Goals as goal

pub returns : goal.returns
returns c = brought_once
