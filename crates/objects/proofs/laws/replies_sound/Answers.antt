use Rattle.objects.proofs.RequestLaws.{reply_sound}
use Rattle.objects.proofs.laws.replies_sound.Goals as goal

pub returns : goal.returns
returns g c = reply_sound
