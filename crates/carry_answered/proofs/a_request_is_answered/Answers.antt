use Rattle.carry_answered.proofs.Exchange.{exchanges_are_answered}
use Rattle.carry_answered.proofs.a_request_is_answered.Goals as goal

pub returns : goal.returns
returns g c = exchanges_are_answered
