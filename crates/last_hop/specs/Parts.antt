-- Which APDUs are messages of a request (20.1).
use Rattle.std.specs.Prelude.{ℕ, true, false, Option, Some, None}
use Rattle.apdu.specs.Apdu.{PlainApdu, confirmed, unconfirmed, simple_ack, complex_ack, segment_ack, error_pdu}
use Rattle.apdu.specs.Apdu.{reject_pdu, abort_pdu}
use Rattle.apdu.specs.declared.apdu.Segment.{Segment}
use Rattle.last_hop.specs.declared.part.HeardPart.{HeardPart}
use Rattle.last_hop.specs.declared.part.RequestOrAnswer.TheVariants.{Request, Answer}
use Rattle.npdu.specs.declared.mac.Station.{Station}
use Rattle.unitdata.specs.Hearing.{HeardContent, says, refuses}

-- what a client says to a device under an invoke ID: a request, or a segment of it
abbrev pub request : (client device : Station) → ℕ → Option Segment → HeardPart
request client device id segment = record {
  invocation = record { client = client; device = device; invoke_id = id };
  which = Request;
  segment = segment;
}

-- what a device says to a client: the answer, or a segment of it
abbrev pub answer : (client device : Station) → ℕ → Option Segment → HeardPart
answer client device id segment = record {
  invocation = record { client = client; device = device; invoke_id = id };
  which = Answer;
  segment = segment;
}

-- what an APDU is that a station hears of another: a request (20.1.2) or an answer to one (20.1.4, 20.1.5, 20.1.7 to
-- 20.1.9), but a SegmentACK and a client's Abort are neither
abbrev pub part_of : (here there : Station) → PlainApdu → Option HeardPart
part_of here there (confirmed segment accepted max_segments max_apdu id service octets) =
    Some (request there here id segment)
part_of here there (unconfirmed service octets) = None
part_of here there (simple_ack id service) = Some (answer here there id None)
part_of here there (complex_ack segment id service octets) = Some (answer here there id segment)
part_of here there (segment_ack negative server id sequence window) = None
part_of here there (error_pdu id service class code first_failed) = Some (answer here there id None)
part_of here there (reject_pdu id reason) = Some (answer here there id None)
part_of here there (abort_pdu true id reason) = Some (answer here there id None)
part_of here there (abort_pdu false id reason) = None

-- the same of what a message brings: that a router didn't pass one on is neither (6.4.4)
abbrev pub part_in : (here there : Station) → HeardContent → Option HeardPart
part_in here there (says apdu) = part_of here there apdu
part_in here there (refuses rejected) = None
