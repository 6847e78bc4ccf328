use Rattle.std.proofs.Common.{length}
use Rattle.std.specs.Prelude.{◌↔◌}
use Rattle.std.specs.Prelude.{map}
use Rattle.site_parts.specs.Places.{network_of}
use Rattle.site.specs.Apart.{AreApart}
use Rattle.site.proofs.roles.are_apart.Given as goal

abbrev pub decreases-loop-left : goal.decreases-loop-left
decreases-loop-left l = length l.left

abbrev pub invariant-loop-left : goal.invariant-loop-left
invariant-loop-left l = AreApart (map network_of l.left) ↔ AreApart (map network_of l.ports)
