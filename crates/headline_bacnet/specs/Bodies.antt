-- What an APDU says, for the book of all that was said (20.1).
use Rattle.std.specs.Prelude.{◌≡◌, ℕ, ◌==◌, Bool, cond, List, Option, Some, None}
use Rattle.apdu.specs.Apdu.{PlainApdu, confirmed, unconfirmed, simple_ack, complex_ack, segment_ack, error_pdu}
use Rattle.apdu.specs.Apdu.{reject_pdu, abort_pdu}
use Rattle.apdu.specs.ApduWriting.{error_octets}
use Rattle.apdu.specs.ServiceError.{SpellsError}
use Rattle.apdu.specs.Unconfirmed.{SpellsIAm, service_number}
use Rattle.apdu.specs.declared.apdu.Segment.{Segment}
use Rattle.apdu.specs.declared.service_error.ObjectPropertyReference.{ObjectPropertyReference}
use Rattle.apdu.specs.declared.sizes.MaxApdu.{MaxApdu}
use Rattle.apdu.specs.declared.sizes.MaxApdu.TheVariants.{UpTo50, UpTo128, UpTo206, UpTo480, UpTo1024, UpTo1476}
use Rattle.apdu.specs.declared.sizes.MaxApdu.TheVariants.{Reserved}
use Rattle.apdu.specs.declared.sizes.MaxSegments.{MaxSegments}
use Rattle.apdu.specs.declared.unconfirmed.IAm.{IAm}
use Rattle.apdu.specs.declared.unconfirmed.UnconfirmedService.TheVariants as kind
use Rattle.history.specs.Book.{Answer, Simple, Complex, Failed, Head, Body, Asks, Asks_piece, Tells, Tells_piece}
use Rattle.history.specs.Book.{Refuses, I_am, Other}
use Rattle.history.specs.declared.End.TheVariants.{Aborted, Rejected}
use Rattle.npdu.specs.declared.mac.Station.{Station}
use Rattle.npdu.specs.declared.mac.Way.{Way}
use Rattle.server_answers.specs.Limits.{answer_chunk}
use Rattle.server_answers.specs.declared.asked.AnswerLimits.{AnswerLimits}

-- the size of an APDU by its code, under its name where it has one (20.1.2.5)
abbrev pub size_of : ℕ → MaxApdu
size_of code = cond (code == 0) UpTo50 (cond (code == 1) UpTo128 (cond (code == 2) UpTo206
    (cond (code == 3) UpTo480 (cond (code == 4) UpTo1024 (cond (code == 5) UpTo1476 (Reserved code))))))

-- what a request says that its client takes of the answer (20.1.2.3 to 20.1.2.5)
abbrev pub limits_of : Bool → MaxSegments → ℕ → AnswerLimits
limits_of accepted max_segments code =
    record { segmented = accepted; max_segments = max_segments; max_apdu = size_of code }

-- what the header of a request says to a device whose own greatest APDU is this: its service, and how many octets of
-- the answer go in a segment from there (20.1.2)
abbrev pub head_of : MaxApdu → AnswerLimits → ℕ → Head
head_of own limits service = record { service = service; room = answer_chunk own limits }

-- a request, or a segment of one (20.1.2)
abbrev pub request_body : Option Segment → ℕ → Head → List ℕ → Body
request_body None invoke head octets = Asks invoke head octets
request_body (Some s) invoke head octets = Asks_piece invoke head s.sequence_number s.more_follows octets

-- an answer with service data, or a segment of one (20.1.5)
abbrev pub answer_body : Option Segment → ℕ → List ℕ → Body
answer_body None invoke octets = Tells invoke (Complex octets)
answer_body (Some s) invoke octets = Tells_piece invoke s.sequence_number s.more_follows octets

-- the answer that an APDU gives: the service data of a ComplexACK; those of an Error, in their shortest octets; else
-- none (20.1.4, 20.1.5, 20.1.7)
abbrev pub answer_in : PlainApdu → Answer
answer_in (complex_ack segment invoke service octets) = Complex octets
answer_in (error_pdu invoke service class code first) = Failed (error_octets class code first)
answer_in apdu = Simple

-- what an APDU says: of a request as a device sees it whose own greatest APDU is this. A SegmentACK says nothing of
-- requests and replies, nor does an unconfirmed request, but for an I-Am
abbrev pub body_of : (own : MaxApdu) → PlainApdu → Body
body_of own (confirmed segment accepted max_segments max_apdu invoke service octets) =
    request_body segment invoke (head_of own (limits_of accepted max_segments max_apdu) service) octets
body_of own (unconfirmed service octets) = Other
body_of own (simple_ack invoke service) = Tells invoke (answer_in (simple_ack invoke service))
body_of own (complex_ack segment invoke service octets) = answer_body segment invoke octets
body_of own (segment_ack negative server invoke sequence window) = Other
body_of own (error_pdu invoke service class code first) =
    Tells invoke (answer_in (error_pdu invoke service class code first))
body_of own (reject_pdu invoke reason) = Refuses invoke (Rejected reason)
body_of own (abort_pdu server invoke reason) = Refuses invoke (Aborted reason)

-- an unconfirmed request is an I-Am of the device with this instance (16.10.3)
pub record IsIAmOf (service : ℕ) (octets : List ℕ) (instance : ℕ) : Type 0 where
  pub i_am : IAm
  pub service_is : service ≡ service_number kind.IAm
  pub spelled : SpellsIAm octets i_am
  pub instance_is : i_am.instance ≡ instance

-- an unconfirmed request is no I-Am (16.10.3)
pub record IsNoIAm (service : ℕ) (octets : List ℕ) : Type 0 where
  pub none : (instance : ℕ) → IsIAmOf service octets instance → ⊥

-- what an unconfirmed request says (20.1.3)
abbrev pub SaysUnconfirmed : ℕ → List ℕ → Body → Type 0
SaysUnconfirmed service octets (I_am instance) = IsIAmOf service octets instance
SaysUnconfirmed service octets Other = IsNoIAm service octets
SaysUnconfirmed service octets body = ⊥

-- an Error says this: its service data spell class, code and the write that failed (20.1.7)
pub record SaysError (invoke service class code : ℕ) (first : Option ObjectPropertyReference)
    (body : Body) : Type 0 where
  pub octets : List ℕ
  pub spelled : SpellsError service octets class code first
  pub is : body ≡ Tells invoke (Failed octets)

-- an APDU says this, to a device whose own greatest APDU is that
abbrev pub Says : (own : MaxApdu) → PlainApdu → Body → Type 0
Says own (unconfirmed service octets) body = SaysUnconfirmed service octets body
Says own (error_pdu invoke service class code first) body = SaysError invoke service class code first body
Says own apdu body = body ≡ body_of own apdu

-- a way leads to the station that it names, else to the one on this network that it goes to (6.5.2)
abbrev pub station_by : ℕ → Option Station → Way → Station
station_by net None way = record { net = net; mac = way.to }
station_by net (Some station) way = station

-- the station that a way leads to from this network (6.5.2)
abbrev pub led_to : ℕ → Way → Station
led_to net way = station_by net way.destination way
