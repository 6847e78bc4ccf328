use Rattle.carry_runs.proofs.Illegal.{none_is_missing, none_is_strange}
use Rattle.carry_runs.proofs.illegal_histories_are_refused.Goals as goal

pub returns : goal.returns
returns g c = record { strange = none_is_strange; missing = none_is_missing }
