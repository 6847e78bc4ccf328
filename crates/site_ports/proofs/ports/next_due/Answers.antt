use Rattle.std.proofs.Common.{arith, rules}
use Rattle.std.proofs.lemmas.Grind.{common_steps}
use Rattle.site_ports.proofs.Dues.{until_all, until_next}
use Rattle.site_ports.proofs.ports.next_due.Goals as goal

-- nothing is due at one more
pub loop-left-preserved : goal.loop-left-preserved
loop-left-preserved g c = until_next _ c.loop-left.due c.next_due.result c.args.ports.now c.loop-left.left.now _
    c.first-item.result (grind (arith, common_steps)) c.loop-left.invariant c.next_due.ensures (search rules)

-- .. and at the end nothing is due at any
pub returns : goal.returns
returns g c =
    until_all c.loop-left.due c.args.ports.now c.loop-left.left.now c.loop-left.invariant c.in_default.len_below
