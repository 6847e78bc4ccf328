use Rattle.std.proofs.Common.{◌≡◌, take}
use Rattle.world.proofs.copying.nodes_in.Given as goal

-- so far
abbrev pub invariant-loop-node : goal.invariant-loop-node
invariant-loop-node g l = l.copies.items ≡ take l.node-index l.nodes
