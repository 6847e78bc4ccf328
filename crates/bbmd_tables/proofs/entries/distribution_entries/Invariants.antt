use Rattle.std.proofs.Common.{◌≡◌, ◌++◌, length, ◌≤◌}
use Rattle.std.specs.Prelude.{drop, map}
use Rattle.bbmd_tables.specs.Tables.{two_hops}
use Rattle.bbmd_tables.proofs.entries.distribution_entries.Given as goal

-- those so far and those that are left, and no more than were gone through
abbrev pub invariant-loop-address : goal.invariant-loop-address
invariant-loop-address g l =
    (l.all.items ++ map two_hops (drop l.address-index l.managers) ≡ map two_hops l.managers)
    × (length l.all.items ≤ l.address-index)
