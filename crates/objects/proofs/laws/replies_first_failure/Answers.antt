use Rattle.objects.proofs.ShapeLaws.{write_all_reply}
use Rattle.objects.proofs.laws.replies_first_failure.Goals as goal

pub returns : goal.returns
returns g c = write_all_reply
