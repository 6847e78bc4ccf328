use Rattle.site_storm.proofs.RageLaws.{LeadsOn}
use Rattle.site_storm.proofs.raging.rage.Given as goal

abbrev pub invariant-loop-left : goal.invariant-loop-left
invariant-loop-left g l =
    LeadsOn l.fn.spelling l.fn.weather.steps l.left l.fn.world l.world (g.L.Write.contents l.fn.lines) (g.L.Write.contents l.lines)
    (g.W.Write.contents l.fn.out) (g.W.Write.contents l.out)

abbrev pub decreases-loop-left : goal.decreases-loop-left
decreases-loop-left g l = l.left
