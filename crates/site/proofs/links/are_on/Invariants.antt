use Rattle.std.proofs.Common.{◌≡◌, length}
use Rattle.std.specs.List.{list_all}
use Rattle.site.specs.Links.{is_link}
use Rattle.site.proofs.links.are_on.Given as goal

abbrev pub decreases-loop-left : goal.decreases-loop-left
decreases-loop-left l = length l.left

abbrev pub invariant-loop-left : goal.invariant-loop-left
invariant-loop-left l = list_all (is_link l.networks) l.left ≡ list_all (is_link l.networks) l.links
