use Rattle.std.proofs.Common.{length}
use Rattle.std.specs.Prelude.{◌↔◌}
use Rattle.std.specs.List.{AllByRecursion}
use Rattle.site.specs.Named.{names}
use Rattle.site.specs.Apart.{IsOther}
use Rattle.site.proofs.named.is_new_name.Given as goal

abbrev pub decreases-loop-left : goal.decreases-loop-left
decreases-loop-left g l = length l.left

abbrev pub invariant-loop-left : goal.invariant-loop-left
invariant-loop-left g l = AllByRecursion (IsOther l.station.name) (names l.left) ↔ AllByRecursion (IsOther l.station.name) (names l.others)
