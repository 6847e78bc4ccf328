use Rattle.std.proofs.Common.{◌≡◌, ◌++◌, ◌-◌, length, take, drop, map}
use Rattle.link_site.specs.Port.{restarted}
use Rattle.site_ports.specs.Ports.{AreBefore}
use Rattle.site_ports.proofs.ports.restart_all.Given as goal

abbrev pub invariant-loop-port : goal.invariant-loop-port
invariant-loop-port g l =
    AreBefore l.now l.ports.items
    × (l.ports.items ≡ map (λ p. restarted l.now p) (take l.port l.fn.ports.items) ++ drop l.port l.fn.ports.items)

abbrev pub decreases-loop-port : goal.decreases-loop-port
decreases-loop-port g l = length l.ports.items - l.port
