use Rattle.std.proofs.Common.{arith}
use Rattle.site_live.proofs.ExpectLaws.{mark_ends, mark_goes_on}
use Rattle.site_live.proofs.running.mark_in.Goals as goal
use Rattle.site_live.specs.Steps.{mark_in}

pub loop-left-preserved : goal.loop-left-preserved
loop-left-preserved g c = mark_goes_on _ c.loop-left.left.now c.first-item.result c.loop-left.mark
    c.mark_after-mark.result (mark_in c.args.steps.now) c.first-item.is c.in-len1-up.len_at_least
    c.mark_after-mark.ensures c.loop-left.invariant

pub returns : goal.returns
returns g c = mark_ends c.loop-left.left.now c.loop-left.mark (mark_in c.args.steps.now)
    (omega (arith, c.in_default.len_below)) c.loop-left.invariant
