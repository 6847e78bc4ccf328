use Rattle.router.proofs.HearLaws.{heard_once}
use Rattle.router.proofs.laws.heard_once.Goals as goal

pub returns : goal.returns
returns g c = heard_once
