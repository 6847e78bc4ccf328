use Rattle.std.proofs.Common.{◌≡◌, ◌++◌}
use Rattle.std.specs.Prelude.{drop}
use Rattle.bbmd_tables.specs.Tables.{others}
use Rattle.bbmd_tables.proofs.addresses.append_others.Given as goal

-- those so far, and those that are left
abbrev pub invariant-loop-address : goal.invariant-loop-address
invariant-loop-address g l =
    l.out.items ++ others l.without (drop l.address-index l.all) ≡ l.fn.out.items ++ others l.without l.all
