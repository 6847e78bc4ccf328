use Rattle.std.proofs.Common.{length}
use Rattle.std.specs.Prelude.{◌↔◌}
use Rattle.std.specs.List.{AllByRecursion}
use Rattle.site_parts.specs.Names.{IsName}
use Rattle.site.specs.Named.{names}
use Rattle.site.proofs.named.have_names.Given as goal

abbrev pub decreases-loop-left : goal.decreases-loop-left
decreases-loop-left g l = length l.left

abbrev pub invariant-loop-left : goal.invariant-loop-left
invariant-loop-left g l = AllByRecursion IsName (names l.left) ↔ AllByRecursion IsName (names l.stations)
