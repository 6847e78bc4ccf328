-- Why reading the body of a service stops.
use Rattle.apdu.specs.declared.numbers.RejectReason.{RejectReason}
use Rattle.answers.specs.declared.stop.Stop.{Stop}
use Rattle.answers.specs.declared.stop.Stop.TheVariants.{Memory, Reject}

-- memory is wanted, or the body is rejected for a reason of which this holds
abbrev pub StopsFor : (RejectReason → Type 0) → Stop → Type 0
StopsFor Holds Memory = Unit {0}
StopsFor Holds (Reject reason) = Holds reason
