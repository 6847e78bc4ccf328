use Rattle.std.proofs.Common.{◌≡◌, take}
use Rattle.site_node.proofs.node.copy_of.Given as goal

abbrev pub invariant-loop-port : goal.invariant-loop-port
invariant-loop-port g l = l.copies.items ≡ take l.port-index l.ports
