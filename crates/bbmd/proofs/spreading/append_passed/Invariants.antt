use Rattle.std.proofs.Common.{◌≡◌, ◌++◌}
use Rattle.std.specs.Prelude.{drop, map, flat_map}
use Rattle.bbmd.specs.Passing.{going_of}
use Rattle.bbmd.specs.Reach.{passed_by, managers_of}
use Rattle.bbmd.proofs.spreading.append_passed.Given as goal

abbrev pub invariant-loop-subnet : goal.invariant-loop-subnet
invariant-loop-subnet g l =
    map going_of l.out.items ++ flat_map (passed_by l.tables.moment (going_of l.passing)) (managers_of (drop l.subnet-index l.subnet-items))
    ≡ map going_of l.fn.out.items ++ flat_map (passed_by l.tables.moment (going_of l.passing)) (managers_of l.subnet-items)
