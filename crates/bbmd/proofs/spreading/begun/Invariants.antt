use Rattle.std.proofs.Common.{◌≡◌, ◌++◌}
use Rattle.std.specs.Prelude.{drop, map, []}
use Rattle.bbmd.specs.Passing.{going_of}
use Rattle.bbmd.specs.Reach.{begun}
use Rattle.bbmd.proofs.spreading.begun.Given as goal

abbrev pub invariant-loop-subnet : goal.invariant-loop-subnet
invariant-loop-subnet g l =
    map going_of l.out.items ++ begun l.tables.moment l.origin [] (drop l.subnet-index l.subnet-items)
    ≡ begun l.tables.moment l.origin [] l.subnet-items
