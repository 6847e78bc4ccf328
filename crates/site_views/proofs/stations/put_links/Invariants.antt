use Rattle.std.proofs.Common.{◌≡◌, ◌++◌, drop, length}
use Rattle.std.specs.Prelude.{map}
use Rattle.site_parts.specs.Places.{station_of}
use Rattle.site_views.proofs.stations.put_links.Given as goal

abbrev pub invariant-loop-link : goal.invariant-loop-link
invariant-loop-link g l = l.out ++ map station_of (drop l.link-index l.links) ≡ l.fn.out ++ map station_of l.links
