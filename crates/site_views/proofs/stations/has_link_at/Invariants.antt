use Rattle.std.proofs.Common.{◌≡◌, ◌++◌, drop, length}
use Rattle.std.specs.Prelude.{map}
use Rattle.std.specs.List.{list_any}
use Rattle.npdu.specs.Mac.{same_station}
use Rattle.site_parts.specs.Places.{station_of}
use Rattle.site_views.proofs.stations.has_link_at.Given as goal

abbrev pub decreases-loop-left : goal.decreases-loop-left
decreases-loop-left l = length l.left

abbrev pub invariant-loop-left : goal.invariant-loop-left
invariant-loop-left l = list_any (λ b. same_station b l.address) (map station_of l.left) ≡ list_any (λ b. same_station b l.address) (map station_of l.links)
