use Rattle.world_kept.proofs.DeedLaws.{deeds_lead}
use Rattle.world_kept.proofs.deeds_lead.Goals as goal

pub returns : goal.returns
returns g c = deeds_lead
