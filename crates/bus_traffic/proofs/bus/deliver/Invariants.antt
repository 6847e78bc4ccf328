use Rattle.std.proofs.Common.{◌≡◌, ◌++◌, take, drop}
use Rattle.bus_traffic.specs.Sendings.{delivered}
use Rattle.bus_traffic.proofs.bus.deliver.Given as goal

-- what is delivered of the rest is delivered of all
abbrev pub invariant-loop-place : goal.invariant-loop-place
invariant-loop-place g l =
    (l.recent ≡ l.fn.recent)
    × (take l.place l.recent.items ++ delivered l.now l.address l.octets (drop l.place l.recent.items)
    ≡ delivered l.now l.address l.octets l.recent.items)
