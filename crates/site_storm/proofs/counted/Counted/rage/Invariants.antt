use Rattle.site_storm.proofs.CountedLaws.{LeadsOn}
use Rattle.site_storm.proofs.counted.Counted.rage.Given as goal

abbrev pub invariant-loop-left : goal.invariant-loop-left
invariant-loop-left g l =
    LeadsOn l.fn.weather.steps l.left l.fn.self l.self (g.L.Write.contents l.fn.lines) (g.L.Write.contents l.lines)

abbrev pub decreases-loop-left : goal.decreases-loop-left
decreases-loop-left g l = l.left
