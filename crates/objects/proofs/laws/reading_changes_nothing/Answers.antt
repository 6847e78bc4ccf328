use Rattle.objects.proofs.ChangeLaws.{unchanged}
use Rattle.objects.proofs.laws.reading_changes_nothing.Goals as goal

pub returns : goal.returns
returns g c = unchanged
