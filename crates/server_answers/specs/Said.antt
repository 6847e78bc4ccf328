-- What a server says (20.1.4 to 20.1.9).
use Rattle.std.specs.Prelude.{ℕ, ◌*◌, Bool, List, ◌∷◌, Some, None, true, false}
use Rattle.apdu.specs.Apdu.{abort_pdu, complex_ack, reject_pdu, segment_ack, simple_ack}
use Rattle.apdu.specs.ApduWriting.{canonical}
use Rattle.apdu.specs.Numbers.{abort_number, reject_number, service_number}
use Rattle.apdu.specs.PduType.{type_number}
use Rattle.apdu.specs.declared.pdu_type.PduType.TheVariants as kind
use Rattle.npdu.specs.declared.mac.Way.{Way}
use Rattle.remembered.specs.declared.record.RememberedAnswer.{RememberedAnswer}
use Rattle.remembered.specs.declared.record.RememberedAnswer.TheVariants as kept
use Rattle.server_answers.specs.declared.said.ServerSaid.{ServerSaid}
use Rattle.server_answers.specs.declared.said.ServerSaid.TheVariants as said
use Rattle.unitdata.specs.Saying as rule
use Rattle.unitdata.specs.Saying.{Spoken}

-- the octets of an answer whole, under this invoke ID, to a request of this service (20.1.4, 20.1.5, 20.1.7, 20.1.9)
abbrev pub answer_octets : {A : Type 0} → (invoke service : ℕ) → RememberedAnswer A → List ℕ
answer_octets invoke service kept.Simple = canonical (simple_ack invoke service)
answer_octets invoke service (kept.Complex octets) = canonical (complex_ack None invoke service octets)
answer_octets invoke service (kept.Error contents) = 16 * type_number kind.Error ∷ (invoke ∷ (service ∷ contents))
answer_octets invoke service (kept.Abort reason) = canonical (abort_pdu true invoke (abort_number reason))

-- the octets of the APDU that it is (20.1.4 to 20.1.9)
unfoldable pub said_octets : {A : Type 0} → ServerSaid A → List ℕ
said_octets (said.Answer way invoke service answer) = answer_octets invoke (service_number service) answer
said_octets (said.Segment way invoke service segment octets) =
    canonical (complex_ack (Some segment) invoke (service_number service) octets)
said_octets (said.SegmentAck way negative invoke number window) =
    canonical (segment_ack negative true invoke number window)
said_octets (said.Reject way invoke reason) = canonical (reject_pdu invoke (reject_number reason))
said_octets (said.Abort way invoke reason) = canonical (abort_pdu true invoke (abort_number reason))

-- where it goes (6.5.2)
abbrev pub said_way : {A : Type 0} → ServerSaid A → Way
said_way (said.Answer way invoke service answer) = way
said_way (said.Segment way invoke service segment octets) = way
said_way (said.SegmentAck way negative invoke number window) = way
said_way (said.Reject way invoke reason) = way
said_way (said.Abort way invoke reason) = way

-- a reply is expected to a segment of an answer, and to nothing else that a device says: a whole answer of any type
-- counts as a ComplexACK that is whole (6.2.2)
abbrev pub expects_reply : {A : Type 0} → ServerSaid A → Bool
expects_reply (said.Answer way invoke service answer) = rule.expects_reply kind.ComplexAck false
expects_reply (said.Segment way invoke service segment octets) = rule.expects_reply kind.ComplexAck true
expects_reply (said.SegmentAck way negative invoke number window) = rule.expects_reply kind.SegmentAck false
expects_reply (said.Reject way invoke reason) = rule.expects_reply kind.Reject false
expects_reply (said.Abort way invoke reason) = rule.expects_reply kind.Abort false

-- it goes out so (6.2.2)
abbrev pub spoken_of : {A : Type 0} → ServerSaid A → Spoken
spoken_of s = record { way = said_way s; expects_reply = expects_reply s; apdu = said_octets s }
