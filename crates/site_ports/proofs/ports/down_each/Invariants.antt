use Rattle.std.proofs.Common.{◌≡◌, drop}
use Rattle.history.specs.Lists.{Has}
use Rattle.router.specs.declared.plan.PortParcel.{PortParcel}
use Rattle.site_ports.specs.Drafts.{PortsState, drafted}
use Rattle.site_ports.specs.Ports.{AreBefore, DownsEach, places_of}
use Rattle.site_ports.proofs.ports.down_each.Given as goal

-- what the rest leads to, all lead to; and the rest is some of all
abbrev pub invariant-loop-one : goal.invariant-loop-one
invariant-loop-one g l =
    AreBefore l.now (drafted l.now l.ports l.draft).ports
    × (places_of (drafted l.now l.ports l.draft).ports ≡ places_of (drafted l.now l.ports l.fn.draft).ports)
    × ((o : PortParcel _) → Has (drop l.one-index l.said) o → Has l.said o)
    × ((s : PortsState _) → DownsEach l.now (drop l.one-index l.said) (drafted l.now l.ports l.draft) s →
    DownsEach l.now l.said (drafted l.now l.ports l.fn.draft) s)
