use Rattle.std.proofs.Common.{◌≡◌, ◌++◌}
use Rattle.std.specs.Prelude.{drop}
use Rattle.bbmd_tables.specs.Tables.{served}
use Rattle.bbmd_tables.proofs.registration.served.Given as goal

-- those so far, and those that are left
abbrev pub invariant-loop-registration : goal.invariant-loop-registration
invariant-loop-registration g l =
    l.devices.items ++ served l.now (drop l.registration-index l.registrations) ≡ served l.now l.registrations
