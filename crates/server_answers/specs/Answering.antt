-- What a server answers to a request, what it remembers of the answer, and how it says it (5.4.5).
use Rattle.std.specs.Prelude.{ℕ, List, [], ◌∷◌, map, Option, Some, None}
use Rattle.apdu.specs.Apdu.{PlainApdu, complex_ack, error_pdu, simple_ack}
use Rattle.apdu.specs.ApduWriting.{error_octets}
use Rattle.apdu.specs.Numbers.{service_number}
use Rattle.apdu.specs.declared.apdu.Segment.{Segment}
use Rattle.apdu.specs.declared.sizes.MaxApdu.{MaxApdu}
use Rattle.primitives.specs.Errors.{class_number, code_number}
use Rattle.primitives.specs.declared.plain_data.Request.{Request}
use Rattle.primitives.specs.declared.plain_data.Reply.{Reply}
use Rattle.primitives.specs.declared.plain_data.Reply.TheVariants.{Done, Error, ErrorAt}
use Rattle.remembered.specs.declared.record.Record.{Record}
use Rattle.remembered.specs.declared.record.RememberedAnswer.{RememberedAnswer}
use Rattle.remembered.specs.declared.record.RememberedAnswer.TheVariants as kept
use Rattle.segments.specs.Sender.{SenderState, window_of}
use Rattle.profile.specs.Limits.{WINDOW_SIZE}
use Rattle.segments.specs.Pieces.{PlainPiece}
use Rattle.services.specs.CanonicalReply.{canonical_reply}
use Rattle.services.specs.Request.{request_service}
use Rattle.server_answers.specs.Limits.{answer_chunk, begun, fitted}
use Rattle.server_answers.specs.declared.asked.Asked.{Asked}
use Rattle.server_answers.specs.declared.said.ServerSaid.{ServerSaid}
use Rattle.server_answers.specs.declared.said.ServerSaid.TheVariants as said

-- the number of the service of a request (21, BACnetConfirmedServiceChoice)
abbrev pub number_of : {A : Type 0} → Request A → ℕ
number_of request = service_number (request_service request)

-- the APDU that answers a request with this reply (20.1.4, 20.1.5, 20.1.7)
abbrev pub answer_apdu : {A : Type 0} → ℕ → Request A → Reply A → PlainApdu
answer_apdu invoke request Done = simple_ack invoke (number_of request)
answer_apdu invoke request (Error class code) =
    error_pdu invoke (number_of request) (class_number class) (code_number code) None
answer_apdu invoke request (ErrorAt class code object property index) =
    error_pdu invoke (number_of request) (class_number class) (code_number code)
    (Some (record { object = object; property = property; index = index }))
answer_apdu invoke request reply = complex_ack None invoke (number_of request) (canonical_reply request reply)

-- what is remembered of an APDU that answers: all but its invoke ID and its service
abbrev pub kept_of : {A : Type 0} → PlainApdu → RememberedAnswer A
kept_of (complex_ack segment invoke service octets) = kept.Complex octets
kept_of (error_pdu invoke service class code first_failed) = kept.Error (error_octets class code first_failed)
kept_of apdu = kept.Simple

-- the answer with this reply, before it is known how it goes
unfoldable pub answer_of : {A : Type 0} → Request A → Reply A → RememberedAnswer A
answer_of request reply = kept_of (answer_apdu 0 request reply)

-- the answer with this reply as it is said to who asked (5.4.5.3)
abbrev pub fitted_answer : {A : Type 0} → MaxApdu → Asked → Request A → Reply A → RememberedAnswer A
fitted_answer own asked request reply =
    fitted asked.limits (answer_chunk own asked.limits) (answer_of request reply)

-- an answer that is remembered from this moment on, and said from its beginning
abbrev pub recorded : {A : Type 0} → ℕ → (chunk : ℕ) → Asked → Request A → RememberedAnswer A → Record A
recorded now chunk asked request answer =
    record {
      asker = asked.asker;
      service = request_service request;
      answer = answer;
      chunk = chunk;
      at = now;
      way = asked.way;
      sending = begun now chunk answer;
    }

-- what is remembered of a request with this reply
abbrev pub record_of : {A : Type 0} → ℕ → MaxApdu → Asked → Request A → Reply A → Record A
record_of now own asked request reply =
    recorded now (answer_chunk own asked.limits) asked request (fitted_answer own asked request reply)

-- the service data of an answer, where it has some (20.1.5)
abbrev pub data_of : {A : Type 0} → RememberedAnswer A → List ℕ
data_of (kept.Complex octets) = octets
data_of answer = []

-- a remembered answer whole
abbrev pub whole_answer : {A : Type 0} → Record A → ServerSaid A
whole_answer r = said.Answer r.way r.asker.invoke_id r.service r.answer

-- what a segment with a piece says of itself; the window that it proposes is this product's (20.1.5)
abbrev pub segment_of : PlainPiece → Segment
segment_of p = record { more_follows = p.has_more; sequence_number = p.number; window = WINDOW_SIZE }

-- a piece of a remembered answer in a segment
abbrev pub answer_segment : {A : Type 0} → Record A → PlainPiece → ServerSaid A
answer_segment r p = said.Segment r.way r.asker.invoke_id r.service (segment_of p) p.octets

-- a remembered answer whole, or the window of what goes on sending it (5.4.5.3, FillWindow)
abbrev pub answered_by : {A : Type 0} → Option SenderState → Record A → List (ServerSaid A)
answered_by None r = whole_answer r ∷ []
answered_by (Some c) r = map (answer_segment r) (window_of (data_of r.answer) c)

-- an answer that goes whole, from what is remembered of it; nothing of one that is said in segments (5.4.5.3)
abbrev pub answer_if_whole : {A : Type 0} → Option SenderState → Record A → List (ServerSaid A)
answer_if_whole None r = whole_answer r ∷ []
answer_if_whole (Some c) r = []

-- the remembered answer, whole, where there is one
abbrev pub whole_answers : {A : Type 0} → Option (Record A) → List (ServerSaid A)
whole_answers None = []
whole_answers (Some r) = whole_answer r ∷ []
