use Rattle.packet_choice.proofs.reading.take_all.Given as goal

abbrev pub decreases-loop-reader : goal.decreases-loop-reader
decreases-loop-reader g l = l.reader
