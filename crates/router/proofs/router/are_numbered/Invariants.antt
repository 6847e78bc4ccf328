use Rattle.std.proofs.Common.{drop, ◌↔◌}
use Rattle.router.specs.Router.{AreNumbered}
use Rattle.router.proofs.router.are_numbered.Given as goal

-- all are where the rest is
abbrev pub invariant-loop-port : goal.invariant-loop-port
invariant-loop-port l = AreNumbered (drop l.port-index l.ports) ↔ AreNumbered l.ports
