use Rattle.std.proofs.Common.{rules, inr}
use Rattle.site_ports.proofs.Drafts.{settled_all}
use Rattle.site_ports.proofs.draft.settle.Goals as goal

pub returns-else-port-len-clause-left : goal.returns-else-port-len-clause-left
returns-else-port-len-clause-left g c =
    settled_all c.args.now c.loop-port.port c.loop-port.ports.items c.loop-port.draft.changes.items _ (inr (search rules))
    (c.loop-port.invariant.3)
