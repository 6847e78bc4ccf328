use Rattle.std.proofs.Common.{◌≡◌, ◌++◌, length, ◌≤◌}
use Rattle.std.specs.Prelude.{drop, map}
use Rattle.bbmd_tables.specs.Tables.{living, told}
use Rattle.bbmd_tables.proofs.entries.foreign_entries.Given as goal

-- those so far and those that are left, and no more than were gone through
abbrev pub invariant-loop-registration : goal.invariant-loop-registration
invariant-loop-registration g l =
    (l.all.items ++ map (told l.now) (living l.now (drop l.registration-index l.registrations))
    ≡ map (told l.now) (living l.now l.registrations))
    × (length l.all.items ≤ l.registration-index)
