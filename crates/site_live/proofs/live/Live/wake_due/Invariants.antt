use Rattle.std.proofs.Common.{[]}
use Rattle.site_live.specs.Laps.{places_left}
use Rattle.site_live.specs.Running.{Lives}
use Rattle.site_live.proofs.live.Live.wake_due.Given as goal

-- so far
abbrev pub invariant-loop : goal.invariant-loop
invariant-loop g l = Lives l.spelling [] l.fn.self l.self (g.O.Write.contents l.fn.out) (g.O.Write.contents l.out)

abbrev pub decreases-loop : goal.decreases-loop
decreases-loop g l = places_left l.self.lap
