use Rattle.objects.proofs.ChangeLaws.{write_all-fails}
use Rattle.objects.proofs.laws.writes_end_at_failure.Goals as goal

pub returns : goal.returns
returns g c = write_all-fails
