use Rattle.std.proofs.Common.{◌≡◌, ◌++◌}
use Rattle.std.specs.Prelude.{map, drop}
use Rattle.site.specs.Marks.{network_mark}
use Rattle.site.proofs.marks.put_networks.Given as goal

abbrev pub invariant-loop-network : goal.invariant-loop-network
invariant-loop-network g l = l.all.items ++ map network_mark (drop l.network-index l.networks) ≡ l.fn.all.items ++ map network_mark l.networks
