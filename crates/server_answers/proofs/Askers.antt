-- The derived order of askers is the one of the definitions.
use Rattle.remembered.proofs.Ordering.{one_order}

pub ruleset asker_rules = (one_order)
