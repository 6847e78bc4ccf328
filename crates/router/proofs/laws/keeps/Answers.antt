use Rattle.router.proofs.KeepLaws as laws
use Rattle.router.proofs.laws.keeps.Goals as goal

pub returns : goal.returns
returns g c = laws.keeps _
