use Rattle.std.proofs.Common.{take}
use Rattle.std.specs.List.{AllByRecursion}
use Rattle.world_log.specs.node_laws.Out.{IsMac}
use Rattle.world_log.specs.site_node.Node.{node_places}
use Rattle.world.proofs.macs.is_at_macs.Given as goal

-- so far
abbrev pub invariant-loop-port : goal.invariant-loop-port
invariant-loop-port g l = AllByRecursion (λ x. IsMac x.mac) (take l.port (node_places l.node))
