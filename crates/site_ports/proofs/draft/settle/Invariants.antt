use Rattle.std.proofs.Common.{◌≡◌, ◌++◌, ◌-◌, ◌≤◌, length, take, drop}
use Rattle.site_ports.specs.Drafts.{left_of}
use Rattle.site_ports.proofs.draft.settle.Given as goal

-- those so far are as their changes leave them, and so will the rest be
abbrev pub invariant-loop-port : goal.invariant-loop-port
invariant-loop-port g l =
    (l.draft.out ≡ l.fn.draft.out)
    × (l.port ≤ length l.ports.items)
    × (drop l.port l.draft.changes.items ≡ drop l.port l.fn.draft.changes.items)
    × (take l.port l.ports.items ++ left_of l.now (drop l.port l.ports.items) (drop l.port l.draft.changes.items)
    ≡ left_of l.now l.fn.ports.items l.fn.draft.changes.items)

abbrev pub decreases-loop-port : goal.decreases-loop-port
decreases-loop-port g l = length l.ports.items - l.port
