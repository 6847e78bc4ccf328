use Rattle.std.proofs.Common.{◌≡◌}
use Rattle.std.specs.Prelude.{drop}
use Rattle.bbmd_tables.specs.Tables.{is_among, others}
use Rattle.bbmd_tables.proofs.addresses.is_another.Given as goal

-- it is one of these where it is one of those that are left
abbrev pub invariant-loop-other : goal.invariant-loop-other
invariant-loop-other l =
    is_among l.address (others l.without (drop l.other-index l.all)) ≡ is_among l.address (others l.without l.all)
