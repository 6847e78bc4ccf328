use Rattle.std.proofs.Common.{◌≡◌, ◌≤◌, length, drop}
use Rattle.runner.specs.Seeking.{AreOthers}
use Rattle.wire.specs.Datagrams.{datagram_of}
use Rattle.runner.proofs.seeking.last_match.Given as goal

abbrev pub decreases-loop-number : goal.decreases-loop-number
decreases-loop-number g l = l.number

-- all from here on are others
abbrev pub invariant-loop-number : goal.invariant-loop-number
invariant-loop-number g l = (l.now ≡ l.world.moment) × (l.number ≤ length l.world.items)
    × AreOthers l.now (datagram_of l.got) (drop l.number l.world.items)
