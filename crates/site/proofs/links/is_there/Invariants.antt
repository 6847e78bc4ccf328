use Rattle.std.proofs.Common.{length}
use Rattle.std.specs.Prelude.{◌≡◌}
use Rattle.std.specs.List.{list_any}
use Rattle.site.specs.Links.{is_on}
use Rattle.site.proofs.links.is_there.Given as goal

abbrev pub decreases-loop-left : goal.decreases-loop-left
decreases-loop-left l = length l.left

abbrev pub invariant-loop-left : goal.invariant-loop-left
invariant-loop-left l = list_any (is_on l.link) l.left ≡ list_any (is_on l.link) l.networks
