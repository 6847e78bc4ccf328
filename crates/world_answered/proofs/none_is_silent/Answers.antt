use Rattle.world_answered.proofs.Direct.{answers_put_out}
use Rattle.world_answered.proofs.Forwarding.{routers_put_out}
use Rattle.world_answered.proofs.Putting.{issues_put_out, routed_issues_put_out}
use Rattle.world_answered.proofs.Routed.{routed_answers_put_out}
use Rattle.world_answered.proofs.none_is_silent.Goals as goal

pub returns : goal.returns
returns g c = record { issue = issues_put_out; routed_issue = routed_issues_put_out; answer = answers_put_out; routed = routed_answers_put_out; router = routers_put_out }
