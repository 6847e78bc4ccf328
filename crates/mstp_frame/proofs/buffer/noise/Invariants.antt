use Rattle.std.proofs.Common.{◌≤◌, ◌-◌, None, length, drop}
use Rattle.mstp_frame.specs.Feeding.{LeadsTo}
use Rattle.mstp_frame.proofs.buffer.noise.Given as goal

abbrev pub invariant-loop-count : goal.invariant-loop-count
invariant-loop-count l = (l.count ≤ length l.piece) × LeadsTo l.piece None (drop l.count l.piece)

abbrev pub decreases-loop-count : goal.decreases-loop-count
decreases-loop-count l = length l.piece - l.count
