use Rattle.link_bus.proofs.Doing.{next_sent}
use Rattle.link.proofs.Putting.{one_more}
use Rattle.std.proofs.Common.{rules}
use Rattle.link_bus.proofs.port.put_over.Goals as goal

pub loop-sent-preserved : goal.loop-sent-preserved
loop-sent-preserved g c = (
  one_more c.args.port _ _ _ _ c.loop-sent.invariant.0 c.in_ok-push.ensures.pushed,
  next_sent c.args.port _ _ _ _ _ _ _ c.loop-sent.invariant.1 (search rules) c.in_ok-push.ensures.pushed,
)
