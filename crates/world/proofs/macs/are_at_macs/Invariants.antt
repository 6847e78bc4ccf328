use Rattle.std.proofs.Common.{take}
use Rattle.std.specs.List.{AllByRecursion}
use Rattle.world.proofs.macs.are_at_macs.Given as goal
use Rattle.world.specs.Laws.{HasMacs}

-- so far
abbrev pub invariant-loop-node : goal.invariant-loop-node
invariant-loop-node g l = AllByRecursion HasMacs (take l.node-index l.nodes)
