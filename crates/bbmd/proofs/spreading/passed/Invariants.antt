use Rattle.std.proofs.Common.{◌≡◌, ◌++◌}
use Rattle.std.specs.Prelude.{drop, map}
use Rattle.bbmd.specs.Passing.{going_of}
use Rattle.bbmd.specs.Reach.{passed, managers_of}
use Rattle.bbmd.proofs.spreading.passed.Given as goal

abbrev pub invariant-loop-passing : goal.invariant-loop-passing
invariant-loop-passing g l =
    map going_of l.out.items ++ passed l.tables.moment (managers_of l.tables.subnets) (map going_of (drop l.passing-index l.all))
    ≡ passed l.tables.moment (managers_of l.tables.subnets) (map going_of l.all)
