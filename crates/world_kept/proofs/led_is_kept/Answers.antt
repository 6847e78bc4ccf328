use Rattle.world_kept.proofs.KeptLaws.{led_is_kept}
use Rattle.world_kept.proofs.led_is_kept.Goals as goal

pub returns : goal.returns
returns g c = led_is_kept
