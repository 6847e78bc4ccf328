use Rattle.std.proofs.Common.{rules}
use Rattle.std.proofs.lemmas.Fn.{filter_same}
use Rattle.bbmd_tables.proofs.registration.keep_living.Goals as goal

pub returns-clause-living : goal.returns-clause-living
returns-clause-living g c = filter_same _ _ _ (λ x b f' k. search rules) _ _ c.retain.ensures.filtered
