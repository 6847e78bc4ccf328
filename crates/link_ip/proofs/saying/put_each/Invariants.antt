use Rattle.std.proofs.Common.{◌≡◌, ◌++◌, length, map}
use Rattle.bvll.specs.Datagram.{broadcast}
use Rattle.carry.specs.Datagrams.{mac_at}
use Rattle.link.specs.Step.{PutsOver, over_port}
use Rattle.link_ip.specs.Saying.{sent}
use Rattle.link_ip.proofs.saying.put_each.Given as goal

-- the datagrams so far, with those to the rest, are all
abbrev pub invariant-loop-left : goal.invariant-loop-left
invariant-loop-left g l = PutsOver l.port l.fn.out l.out
    × (l.out ++ over_port l.port (map (λ other. sent (mac_at other) (broadcast l.npdu) l.stamp) l.left)
    ≡ l.fn.out ++ over_port l.port (map (λ other. sent (mac_at other) (broadcast l.npdu) l.stamp) l.others))

abbrev pub decreases-loop-left : goal.decreases-loop-left
decreases-loop-left g l = length l.left
