use Rattle.std.proofs.Common.{◌≡◌, ◌++◌, length, map}
use Rattle.world_sites.proofs.directory.names_of.Given as goal

-- those behind are still to come
abbrev pub invariant-loop-left : goal.invariant-loop-left
invariant-loop-left g l = map (λ n. n.name) l.nodes ≡ map (λ n. n.items) l.all.items ++ map (λ n. n.name) l.left

abbrev pub decreases-loop-left : goal.decreases-loop-left
decreases-loop-left g l = length l.left
