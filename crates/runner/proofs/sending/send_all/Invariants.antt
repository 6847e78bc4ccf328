use Rattle.std.proofs.Common.{◌≡◌, ◌≤◌, ◌-◌, ◌^◌, length, max, true, false}
use Rattle.wire.specs.Counts.{IsRisen, raised}
use Rattle.runner.proofs.sending.send_all.Given as goal

abbrev pub decreases-loop-number : goal.decreases-loop-number
decreases-loop-number g l = length l.world.items - l.number

-- so far
abbrev pub invariant-loop-number : goal.invariant-loop-number
invariant-loop-number g l = (l.sent ≤ l.number)
    × (l.number ≤ max l.sent (length l.world.items))
    × (g.W.Wire.sends l.wire ≡ raised (g.W.Wire.sends l.fn.wire) (l.number - l.sent))
    × (g.W.Wire.recvs l.wire ≡ g.W.Wire.recvs l.fn.wire)
    × (g.W.Wire.latest l.wire ≡ g.W.Wire.latest l.fn.wire)
    × (g.W.Wire.faults l.wire ≤ 2 ^ 64 - 1)
    × (l.failed ≡ false → g.W.Wire.faults l.wire ≡ g.W.Wire.faults l.fn.wire)
    × (l.failed ≡ true → IsRisen (g.W.Wire.faults l.fn.wire) (g.W.Wire.faults l.wire))
