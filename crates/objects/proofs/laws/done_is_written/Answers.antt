use Rattle.objects.proofs.ChangeLaws.{write_done}
use Rattle.objects.proofs.laws.done_is_written.Goals as goal

pub returns : goal.returns
returns g c = write_done
