use Rattle.std.proofs.Common.{length}
use Rattle.rows_packets.proofs.reading.push_packets.Given as goal

abbrev pub decreases-loop-capture : goal.decreases-loop-capture
decreases-loop-capture g l = length l.capture
