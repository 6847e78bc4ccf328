use Rattle.std.proofs.Common.{◌-◌, length}
use Rattle.site_ports.specs.Drafts.{PortsState, drafted}
use Rattle.site_ports.specs.Ports.{AreBefore, WakesAll, WakesFrom}
use Rattle.site_ports.proofs.ports.wake_all.Given as goal

-- what the ports from this one on lead to, all lead to
abbrev pub invariant-loop-port : goal.invariant-loop-port
invariant-loop-port g l =
    AreBefore l.now (drafted l.now l.ports l.draft).ports
    × ((s : PortsState _) → WakesFrom l.now l.port (length l.ports - l.port) (drafted l.now l.ports l.draft) s →
    WakesAll l.now (drafted l.now l.ports l.fn.draft) s)

abbrev pub decreases-loop-port : goal.decreases-loop-port
decreases-loop-port g l = length l.ports - l.port
