use Rattle.rows_packets.proofs.chunks.push_packets.Given as goal

abbrev pub decreases-loop-reader : goal.decreases-loop-reader
decreases-loop-reader g l = l.reader
