use Rattle.std.proofs.Common.{◌≡◌, ◌∷◌, arith, drop, map}
use Rattle.std.proofs.lemmas.Grind.{common_steps}
use Rattle.bvll.specs.Datagram.{broadcast}
use Rattle.carry.specs.Datagrams.{mac_at}
use Rattle.link_ip.specs.Saying.{sent}
use Rattle.link_ip.proofs.Sending.{next_left, next_over}
use Rattle.link_ip.proofs.saying.put_each.Goals as goal

pub loop-left-preserved : goal.loop-left-preserved
loop-left-preserved g c = (
  next_over c.args.port _ _ _ _ c.loop-left.invariant.0 c.in_ok-put_at.ensures.put,
  next_left c.args.port (λ other. sent (mac_at other) (broadcast c.args.npdu.now) c.args.stamp) _ _ _ _ _ _ _
      c.loop-left.invariant.1 (grind (arith, common_steps)) c.in_ok-put_at.ensures.put,
)
