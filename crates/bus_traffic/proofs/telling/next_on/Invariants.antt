use Rattle.std.proofs.Common.{drop}
use Rattle.bus_traffic.proofs.TellingLaws.{AreLeft}
use Rattle.bus_traffic.proofs.telling.next_on.Given as goal

-- what is due stands among those that are left
abbrev pub invariant-loop-held : goal.invariant-loop-held
invariant-loop-held g l =
    AreLeft l.now l.from l.before l.bus.ears.items l.bus.recent.items (drop l.held-index l.held-items)
