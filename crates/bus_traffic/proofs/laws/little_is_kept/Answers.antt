use Rattle.bus_traffic.proofs.KeepingLaws.{equal_is_known, old_is_forgotten, order_is_kept}
use Rattle.bus_traffic.proofs.laws.little_is_kept.Goals as goal

pub returns-clause-order : goal.returns-clause-order
returns-clause-order g c = order_is_kept

pub returns-clause-equal : goal.returns-clause-equal
returns-clause-equal g c = equal_is_known

pub returns-clause-old : goal.returns-clause-old
returns-clause-old g c = old_is_forgotten
