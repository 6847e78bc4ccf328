use Rattle.std.proofs.Common.{◌≡◌}
use Rattle.std.specs.Prelude.{drop}
use Rattle.bbmd_tables.specs.Tables.{is_among}
use Rattle.bbmd.specs.Reach.{managers_of, owns}
use Rattle.bbmd.proofs.spreading.is_manager.Given as goal

abbrev pub invariant-loop-subnet : goal.invariant-loop-subnet
invariant-loop-subnet g l =
    is_among l.address (owns (managers_of (drop l.subnet-index l.subnets))) ≡ is_among l.address (owns (managers_of l.subnets))
