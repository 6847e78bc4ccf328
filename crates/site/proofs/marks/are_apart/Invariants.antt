use Rattle.std.proofs.Common.{length}
use Rattle.std.specs.Prelude.{◌↔◌}
use Rattle.site.specs.Apart.{AreApart}
use Rattle.site.proofs.marks.are_apart.Given as goal

abbrev pub decreases-loop-left : goal.decreases-loop-left
decreases-loop-left l = length l.left

abbrev pub invariant-loop-left : goal.invariant-loop-left
invariant-loop-left l = AreApart l.left ↔ AreApart l.marks
