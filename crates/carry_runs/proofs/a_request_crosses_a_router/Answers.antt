use Rattle.carry_runs.proofs.Crossing.{is_answered}
use Rattle.carry_runs.proofs.a_request_crosses_a_router.Goals as goal

pub returns : goal.returns
returns g c = is_answered
