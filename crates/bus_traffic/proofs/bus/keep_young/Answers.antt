use Rattle.std.proofs.Common.{rules}
use Rattle.std.proofs.lemmas.Fn.{filter_same}
use Rattle.bus_traffic.proofs.bus.keep_young.Goals as goal

pub returns-clause-young : goal.returns-clause-young
returns-clause-young g c = filter_same _ _ _ (λ x b f' k. search rules) _ _ c.retain.ensures.filtered
