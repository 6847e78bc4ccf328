use Rattle.std.proofs.Common.{length}
use Rattle.std.specs.List.{AllByRecursion}
use Rattle.site_storm.specs.site_run.simulator.world.Step.{IsSoundEvent}
use Rattle.site_storm.specs.site_run.simulator.world.World.{WorldState}
use Rattle.site_search.specs.Searching.{Happen}
use Rattle.site_search.proofs.searching.make_all.Given as goal

-- what the rest leads to, all lead to
abbrev pub invariant-loop-left : goal.invariant-loop-left
invariant-loop-left g l =
    AllByRecursion IsSoundEvent l.left
    × ((v : WorldState _) → Happen l.left l.world v → Happen l.events l.fn.world v)

abbrev pub decreases-loop-left : goal.decreases-loop-left
decreases-loop-left g l = length l.left
