use Rattle.std.proofs.Common.{◌≡◌, drop}
use Rattle.router.specs.Handling.{own_port_from}
use Rattle.router.proofs.handling.port_on.Given as goal

-- the first of the rest is the first of all
abbrev pub invariant-loop-number : goal.invariant-loop-number
invariant-loop-number l = own_port_from l.number l.net (drop l.number l.ports) ≡ own_port_from 0 l.net l.ports
