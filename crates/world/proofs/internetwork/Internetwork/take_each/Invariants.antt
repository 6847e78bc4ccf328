use Rattle.std.proofs.Common.{◌<◌, length}
use Rattle.tags.specs.declared.fault.Fault.{Fault}
use Rattle.world.proofs.internetwork.Internetwork.take_each.Given as goal
use Rattle.world.specs.Hearing.{RefusesOne, TakesEach}
use Rattle.world.specs.World.{WorldState}

-- what comes of those that are left comes of all
abbrev pub invariant-loop-left : goal.invariant-loop-left
invariant-loop-left g l = (l.listener.place < length l.self.nodes)
    × ((v : WorldState _) → TakesEach l.listener l.left l.self v → TakesEach l.listener l.frames l.fn.self v)
    × ((fault : Fault) → RefusesOne l.listener fault l.left l.self → RefusesOne l.listener fault l.frames l.fn.self)

abbrev pub decreases-loop-left : goal.decreases-loop-left
decreases-loop-left g l = length l.left
