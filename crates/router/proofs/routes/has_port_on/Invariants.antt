use Rattle.std.proofs.Common.{◌≡◌, drop}
use Rattle.router.specs.Routes.{has_port_on}
use Rattle.router.proofs.routes.has_port_on.Given as goal

abbrev pub invariant-loop-port : goal.invariant-loop-port
invariant-loop-port l = has_port_on l.net (drop l.port-index l.ports) ≡ has_port_on l.net l.ports
