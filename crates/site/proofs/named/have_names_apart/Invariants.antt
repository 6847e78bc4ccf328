use Rattle.std.proofs.Common.{length}
use Rattle.std.specs.Prelude.{◌↔◌}
use Rattle.site.specs.Apart.{AreApart}
use Rattle.site.specs.Named.{names}
use Rattle.site.proofs.named.have_names_apart.Given as goal

abbrev pub decreases-loop-left : goal.decreases-loop-left
decreases-loop-left g l = length l.left

abbrev pub invariant-loop-left : goal.invariant-loop-left
invariant-loop-left g l = AreApart (names l.left) ↔ AreApart (names l.stations)
