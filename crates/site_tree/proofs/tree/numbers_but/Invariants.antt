use Rattle.std.proofs.Common.{◌≡◌, ◌++◌}
use Rattle.std.specs.Prelude.{drop}
use Rattle.std.specs.List.{flat_map}
use Rattle.site_tree.specs.Tree.{but}
use Rattle.site_tree.proofs.tree.numbers_but.Given as goal

abbrev pub invariant-loop-network : goal.invariant-loop-network
invariant-loop-network g l = l.numbers.items ++ flat_map (λ n. but l.number n.number) (drop l.network-index l.networks) ≡ flat_map (λ n. but l.number n.number) l.networks
