use Rattle.world_kept.proofs.HistoryLaws.{events_go_on, strays_go_on}
use Rattle.world_kept.proofs.history_goes_on.Goals as goal

pub returns : goal.returns
returns g c = record { event = events_go_on; stray = strays_go_on }
