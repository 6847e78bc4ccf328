use Rattle.objects.proofs.RequestLaws.{after_sound}
use Rattle.objects.proofs.laws.leaves_sound.Goals as goal

pub returns : goal.returns
returns g c = after_sound
