use Rattle.std.proofs.Common.{length, ◌-◌}
use Rattle.senders.specs.Senders.{AreKnown, senders_of}
use Rattle.senders.proofs.senders.Senders.see.Given as goal

-- whoever sent the items that it saw is known
abbrev pub invariant-loop-self : goal.invariant-loop-self
invariant-loop-self g l =
    AreKnown (record { known = l.self-inside.known.items; seen = l.self-inside.seen }) (senders_of l.items)

abbrev pub decreases-loop-self : goal.decreases-loop-self
decreases-loop-self g l = length l.items - l.self-inside.seen
