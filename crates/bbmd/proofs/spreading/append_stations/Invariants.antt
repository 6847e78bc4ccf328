use Rattle.std.proofs.Common.{◌≡◌, ◌++◌}
use Rattle.std.specs.Prelude.{drop, map}
use Rattle.bbmd.specs.Passing.{going_of}
use Rattle.bbmd.specs.Reach.{managers_of, stations}
use Rattle.bbmd.proofs.spreading.append_stations.Given as goal

abbrev pub invariant-loop-passing : goal.invariant-loop-passing
invariant-loop-passing g l =
    l.out ++ stations (managers_of l.subnets) (map (λ g. g.to) (map going_of (drop l.passing-index l.all)))
    ≡ l.fn.out ++ stations (managers_of l.subnets) (map (λ g. g.to) (map going_of l.all))
