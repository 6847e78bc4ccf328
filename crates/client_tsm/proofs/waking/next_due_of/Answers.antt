use Rattle.std.proofs.Common.{arith, rules}
use Rattle.std.proofs.lemmas.Grind.{common_steps}
use Rattle.client_tsm.proofs.Dues.{quiet_all, quiet_next}
use Rattle.client_tsm.proofs.waking.next_due_of.Goals as goal

-- nothing was due of one more
pub loop-left-preserved : goal.loop-left-preserved
loop-left-preserved g c = quiet_next _ c.loop-left.due c.next_due.result c.args.open_ones.now c.loop-left.left.now _
    c.first-item.result (grind (arith, common_steps)) c.loop-left.invariant c.next_due.ensures (search rules)

-- .. and at the end nothing is due of any
pub returns : goal.returns
returns g c =
    quiet_all c.loop-left.due c.args.open_ones.now c.loop-left.left.now c.loop-left.invariant c.in_default.len_below
