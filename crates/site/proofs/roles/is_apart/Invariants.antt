use Rattle.std.proofs.Common.{length}
use Rattle.std.specs.Prelude.{◌↔◌}
use Rattle.std.specs.Prelude.{map}
use Rattle.std.specs.List.{AllByRecursion}
use Rattle.site_parts.specs.Places.{network_of}
use Rattle.site.specs.Apart.{IsOther}
use Rattle.site.proofs.roles.is_apart.Given as goal

abbrev pub decreases-loop-left : goal.decreases-loop-left
decreases-loop-left l = length l.left

abbrev pub invariant-loop-left : goal.invariant-loop-left
invariant-loop-left l = AllByRecursion (IsOther (network_of l.port)) (map network_of l.left) ↔ AllByRecursion (IsOther (network_of l.port)) (map network_of l.others)
