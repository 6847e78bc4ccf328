use Rattle.std.proofs.Common.{◌≡◌, length, ◌+◌, ◌≤◌}
use Rattle.std.specs.Prelude.{drop}
use Rattle.bbmd_tables.specs.Tables.{without}
use Rattle.bbmd_tables.proofs.registration.count_without.Given as goal

-- those so far and those that are left, and no more than were gone through
abbrev pub invariant-loop-registration : goal.invariant-loop-registration
invariant-loop-registration l =
    (l.count + length (without l.now l.device (drop l.registration-index l.registrations))
    ≡ length (without l.now l.device l.registrations))
    × (l.count ≤ l.registration-index)
