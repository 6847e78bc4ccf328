use Rattle.std.proofs.Common.{length}
use Rattle.bus_traffic.specs.Sendings.{judged_by, known_of}
use Rattle.bus_traffic.proofs.HearingLaws.{GoesOn}
use Rattle.bus_traffic.proofs.hearing.hear.Given as goal

-- what is heard in the rest stands behind what was heard
abbrev pub invariant-loop-frames : goal.invariant-loop-frames
invariant-loop-frames g l =
    GoesOn _ (λ whole. judged_by l.now (known_of whole l.known)) l.fn.deframer l.octets l.frames l.deframer l.left

abbrev pub decreases-loop-frames : goal.decreases-loop-frames
decreases-loop-frames g l = length l.left
