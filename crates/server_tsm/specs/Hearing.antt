-- What a server does with an APDU that it hears (5.4.5).
use Rattle.std.specs.Prelude.{ℕ, ◌==◌, ◌||◌, nat_le, nat_lt, not, Bool, true, false, List, [], ◌∷◌, ◌++◌, length}
use Rattle.std.specs.Prelude.{filter, Option, Some, None, Result, Ok, Err, unwrap_or}
use Rattle.apdu.specs.Apdu.{apdu_of, invoke_id_of}
use Rattle.apdu.specs.declared.apdu.Apdu.{Apdu}
use Rattle.apdu.specs.declared.apdu.Apdu.TheVariants as apdu
use Rattle.apdu.specs.declared.apdu.Segment.{Segment}
use Rattle.apdu.specs.declared.numbers.AbortReason.{AbortReason}
use Rattle.apdu.specs.declared.numbers.AbortReason.TheVariants.{BufferOverflow, OutOfResources}
use Rattle.apdu.specs.declared.numbers.RejectReason.{RejectReason}
use Rattle.npdu.specs.declared.mac.Way.{Way}
use Rattle.primitives.specs.declared.plain_data.Request.{Request}
use Rattle.primitives.specs.declared.plain_data.Reply.{Reply}
use Rattle.server_answers.specs.remembered.Records.{is_full, remembered, said_on}
use Rattle.server_answers.specs.remembered.declared.record.Asker.{Asker}
use Rattle.server_answers.specs.remembered.declared.record.Record.{Record}
use Rattle.segments.specs.Sender.{SenderState, Turned, has_ended, hears}
use Rattle.segments.specs.Receiver.{ReceiverState, granted_window, joins, nothing_joined}
use Rattle.profile.specs.Limits.{MAX_GATHERINGS, MAX_SERVICE_DATA_OCTETS}
use Rattle.segments.specs.declared.step.Step.{Step}
use Rattle.segments.specs.declared.step.Step.TheVariants.{Taken, Nak, Dropped, Full}
use Rattle.segments.specs.declared.step.Turn.{Turn}
use Rattle.segments.specs.declared.step.Turn.TheVariants as turn
use Rattle.server_answers.specs.services.Asked.{replied}
use Rattle.server_answers.specs.Answering.{answered_by, record_of}
use Rattle.server_answers.specs.Limits.{begun}
use Rattle.server_answers.specs.Plan.{ServerChange, ServerPlan, Stays, Says, Gathers, GivesUp, Executes, quiet}
use Rattle.server_answers.specs.Gathering.{gathering_of, gathers_still}
use Rattle.server_tsm.specs.Server.{ServerTsmState}
use Rattle.server_tsm.specs.Waking.{saying_by}
use Rattle.server_answers.specs.declared.asked.AnswerLimits.{AnswerLimits}
use Rattle.server_answers.specs.declared.asked.Asked.{Asked}
use Rattle.server_answers.specs.declared.asked.Origin.{Origin}
use Rattle.server_answers.specs.declared.gathering.RequestGathering.{RequestGathering}
use Rattle.server_answers.specs.declared.said.ServerSaid.{ServerSaid}
use Rattle.server_answers.specs.declared.said.ServerSaid.TheVariants as said

-- what an APDU says to a server: a request whole, or a segment of one, of a service; that segments of the answer came;
-- that the transaction is over; or nothing (20.1)
pub data Message : Type 0 where
  asks : Option Segment → AnswerLimits → (service : ℕ) → List ℕ → Message
  acknowledges : (negative : Bool) → (number window : ℕ) → Message
  gives_up : Message
  nothing : Message

-- what a server hears, under which invoke ID
pub record Heard : Type 0 where
  pub invoke_id : ℕ
  pub message : Message

-- what a server says is not for a server (20.1.6.2, 20.1.9.1)
abbrev pub of_client : (server : Bool) → Message → Message
of_client true message = nothing
of_client false message = message

-- what an APDU says to a server: nothing where it is an answer (20.1)
abbrev pub message_of : Apdu → Message
message_of (apdu.ConfirmedRequest segment accepted max_segments max_apdu invoke service octets) =
    asks segment (record { segmented = accepted; max_segments = max_segments; max_apdu = max_apdu }) service octets.now
message_of (apdu.UnconfirmedRequest service octets) = nothing
message_of (apdu.SimpleAck invoke service) = nothing
message_of (apdu.ComplexAck segment invoke service octets) = nothing
message_of (apdu.SegmentAck negative server invoke number window) =
    of_client server (acknowledges negative number window)
message_of (apdu.Error invoke service e) = nothing
message_of (apdu.Reject invoke reason) = nothing
message_of (apdu.Abort server invoke reason) = of_client server gives_up

-- what an APDU says to a server; its invoke ID counts as 0 where it has none (20.1)
abbrev pub heard_of : Apdu → Heard
heard_of a = record { invoke_id = unwrap_or (invoke_id_of (apdu_of a)) 0; message = message_of a }

-- who says it
abbrev pub asker_of : Origin → Heard → Asker
asker_of from h = record { station = from.station; invoke_id = h.invoke_id }

-- an Abort is said behind this, and this changes (5.4.5.1, 5.4.5.2)
abbrev pub aborting : {A : Type 0} → List (ServerSaid A) → AbortReason → Asked → ServerChange A → ServerPlan A
aborting says reason asked change =
    record { said = says ++ said.Abort asked.way asked.asker.invoke_id reason ∷ []; executed = None; change = change }

-- a request that came whole. says: what is said of its last segment
pub record Whole (A : Type 0) : Type 0 where
  pub asked : Asked
  pub octets : List ℕ
  pub says : List (ServerSaid A)

-- what an input comes to before any service data are read
pub data Reached (A : Type 0) : Type 0 where
  plans : ServerPlan A → Reached A
  completes : Whole A → Reached A

-- an answer is being said in segments (5.4.5.4)
abbrev pub is_sending : ℕ → Option SenderState → Bool
is_sending now None = false
is_sending now (Some c) = not (has_ended now c)

-- an answer that goes on so is said on this way
abbrev pub answer_plan : {A : Type 0} → Option SenderState → Way → Record A → ServerPlan A
answer_plan sending way r =
    record {
      said = answered_by sending (said_on way sending r);
      executed = None;
      change = Says (saying_by sending (said_on way sending r));
    }

-- a request whose answer is remembered is dropped where segments of that are being said, else that is said again
abbrev pub repeated_if : {A : Type 0} → (is_sending : Bool) → ℕ → Way → Record A → ServerPlan A
repeated_if true now way r = quiet Stays
repeated_if false now way r = answer_plan (begun now r.chunk r.answer) way r

-- a request whose answer is remembered: while segments of it are said it is dropped, else it is said again (5.4.5.1)
abbrev pub repeated : {A : Type 0} → ℕ → Way → Record A → ServerPlan A
repeated now way r = repeated_if (is_sending now r.sending) now way r

-- one with too many octets is aborted
abbrev pub completed_if : {A : Type 0} → (is_too_long : Bool) → Whole A → Reached A
completed_if true w = plans (aborting w.says BufferOverflow w.asked (GivesUp w.asked.asker))
completed_if false w = completes w

-- a request came whole, and no answer of it is remembered (5.4.5.1, 5.4.5.2)
abbrev pub completed : {A : Type 0} → Whole A → Reached A
completed w = completed_if (nat_lt MAX_SERVICE_DATA_OCTETS (length w.octets)) w

-- a request in one APDU (5.4.5.1)
abbrev pub whole_heard : {A : Type 0} → Option (Record A) → ℕ → Asked → List ℕ → Reached A
whole_heard (Some r) now asked octets = plans (repeated now asked.way r)
whole_heard None now asked octets = completed (record { asked = asked; octets = octets; says = [] })

-- a SegmentACK of the request (20.1.6)
abbrev pub request_ack : {A : Type 0} → (negative : Bool) → (number window : ℕ) → Asked → ServerSaid A
request_ack negative number window asked = said.SegmentAck asked.way negative asked.asker.invoke_id number window

-- a SegmentACK, where one is due (5.4.5.2)
abbrev pub ack_if : {A : Type 0} → Option ℕ → (window : ℕ) → Asked → List (ServerSaid A)
ack_if None window asked = []
ack_if (Some number) window asked = request_ack false number window asked ∷ []

-- the segment joins what came so far, and this is said (5.4.5.2)
abbrev pub gathered : {A : Type 0} → List (ServerSaid A) → Asked → Segment → List ℕ → ServerPlan A
gathered says asked s octets = record { said = says; executed = None; change = Gathers asked s octets }

-- a segment was taken: more follow, or the request is whole, with all these octets (5.4.5.2)
abbrev pub taken_if : {A : Type 0} → (more : Bool) → List (ServerSaid A) → Asked → Segment → (octets all : List ℕ) →
    Reached A
taken_if true says asked s octets all = plans (gathered says asked s octets)
taken_if false says asked s octets all = completed (record { asked = asked; octets = all; says = says })

-- a segment comes to this by what the receiver does with it, and what that is then; one that would pass a limit gives
-- the request up, with an Abort (5.4.5.2)
abbrev pub joined_by : {A : Type 0} → Step → Asked → Segment → List ℕ → ReceiverState → Reached A
joined_by (Taken ack) asked s octets j = taken_if s.more_follows (ack_if ack j.window asked) asked s octets j.octets
joined_by (Nak number) asked s octets j = plans (gathered (request_ack true number j.window asked ∷ []) asked s octets)
joined_by Dropped asked s octets j = plans (gathered [] asked s octets)
joined_by Full asked s octets j = plans (aborting [] BufferOverflow asked (GivesUp asked.asker))

-- a segment joins what came so far (5.4.5.2)
abbrev pub joined : {A : Type 0} → ℕ → Asked → ReceiverState → Segment → List ℕ → Reached A
joined now asked j s octets =
    let x = joins now s.sequence_number s.more_follows octets j in joined_by x.step asked s octets x.state

-- a segment of another service than the first's is dropped (5.4.5.2)
abbrev pub of_service : {A : Type 0} → (is_same : Bool) → Reached A → Reached A
of_service true reached = reached
of_service false reached = plans (quiet Stays)

-- who asked in segments, as the first of them said it, but for the way of the last
abbrev pub asked_on : {A : Type 0} → Way → RequestGathering A → Asked
asked_on way a = record a.asked { way = way }

-- the first segment begins, where there is a place; all others are dropped (5.4.5.1)
abbrev pub begins_if : {A : Type 0} → (is_first is_crowded : Bool) → ℕ → Asked → Segment → List ℕ → Reached A
begins_if false is_crowded now asked s octets = plans (quiet Stays)
begins_if true true now asked s octets = plans (aborting [] OutOfResources asked Stays)
begins_if true false now asked s octets = joined now asked (nothing_joined (granted_window s.window)) s octets

-- MAX_GATHERINGS requests are being gathered
abbrev pub is_crowded : {A : Type 0} → ℕ → List (RequestGathering A) → Bool
is_crowded now xs = nat_le MAX_GATHERINGS (length (filter (gathers_still now) xs))

-- a segment of a request, of which this came so far (5.4.5.1, 5.4.5.2)
abbrev pub part_joined : {A : Type 0} → Option (RequestGathering A) → ℕ → Asked → Segment → List ℕ →
    List (RequestGathering A) → Reached A
part_joined (Some a) now asked s octets xs =
    of_service (asked.service == a.asked.service) (joined now (asked_on asked.way a) a.receiver s octets)
part_joined None now asked s octets xs = begins_if (s.sequence_number == 0) (is_crowded now xs) now asked s octets

-- a segment of a request: its answer may be remembered (5.4.5.1, 5.4.5.2)
abbrev pub part_heard : {A : Type 0} → Option (Record A) → ℕ → Asked → Segment → List ℕ →
    List (RequestGathering A) → Reached A
part_heard (Some r) now asked s octets xs = plans (repeated now asked.way r)
part_heard None now asked s octets xs = part_joined (gathering_of now asked.asker xs) now asked s octets xs

-- a SegmentACK of the answer, by what the sender does on it (5.4.5.4)
abbrev pub turned_by : {A : Type 0} → Turn → SenderState → Way → Record A → ServerPlan A
turned_by turn.Waits c way r = quiet Stays
turned_by turn.Sends c way r = answer_plan (Some c) way r
turned_by turn.Ends c way r = quiet (Says (saying_by None (said_on way None r)))

-- a SegmentACK of the answer, by what the sender does on it and what it is then (5.4.5.4)
abbrev pub turned : {A : Type 0} → Turned → Way → Record A → ServerPlan A
turned t way r = turned_by t.turn t.state way r

-- a SegmentACK of an answer that goes on so (5.4.5.4)
abbrev pub ack_taken : {A : Type 0} → Option SenderState → ℕ → (number window : ℕ) → Bool → Way → Record A →
    ServerPlan A
ack_taken None now number window negative way r = quiet Stays
ack_taken (Some c) now number window negative way r = turned (hears now number window negative c) way r

-- a SegmentACK of an answer, where it is remembered (5.4.5.4)
abbrev pub ack_heard : {A : Type 0} → Option (Record A) → ℕ → (number window : ℕ) → Bool → Way → ServerPlan A
ack_heard None now number window negative way = quiet Stays
ack_heard (Some r) now number window negative way = ack_taken r.sending now number window negative way r

-- an Abort of the client ends the saying of the answer, which stays remembered, or the gathering (5.4.5)
abbrev pub given_up : {A : Type 0} → Option (Record A) → Asker → ServerPlan A
given_up None asker = quiet (GivesUp asker)
given_up (Some r) asker = quiet (Says (saying_by None r))

-- a request that came by a broadcast is dropped, and each before the end of the quiet time (5.4)
abbrev pub is_deaf : {A : Type 0} → ℕ → (by_broadcast : Bool) → ServerTsmState A → Bool
is_deaf now by_broadcast st = by_broadcast || nat_lt now st.quiet_until

-- dropped where the server is deaf
abbrev pub unless : {A : Type 0} → (is_deaf : Bool) → Reached A → Reached A
unless true reached = plans (quiet Stays)
unless false reached = reached

-- who asks, and what of
abbrev pub asked_by : Origin → Asker → AnswerLimits → ℕ → Asked
asked_by from asker limits service = record { asker = asker; way = from.way; limits = limits; service = service }

-- a request, whole or a segment of it (20.1.2)
abbrev pub request_heard : {A : Type 0} → Option Segment → ℕ → Asked → List ℕ → ServerTsmState A → Reached A
request_heard None now asked octets st = whole_heard (remembered now asked.asker st.records) now asked octets
request_heard (Some s) now asked octets st =
    part_heard (remembered now asked.asker st.records) now asked s octets st.gatherings

-- what a message of this asker comes to (5.4.5)
abbrev pub reached_by : {A : Type 0} → Message → ℕ → Origin → Asker → ServerTsmState A → Reached A
reached_by (asks segment limits service octets) now from asker st =
    unless (is_deaf now from.by_broadcast st)
    (request_heard segment now (asked_by from asker limits service) octets st)
reached_by (acknowledges negative number window) now from asker st =
    plans (ack_heard (remembered now asker st.records) now number window negative from.way)
reached_by gives_up now from asker st = plans (given_up (remembered now asker st.records) asker)
reached_by nothing now from asker st = plans (quiet Stays)

-- the half of the step that needs no service data
abbrev pub reached : {A : Type 0} → ℕ → Origin → Heard → ServerTsmState A → Reached A
reached now from h st = reached_by h.message now from (asker_of from h) st

-- a request is rejected behind this (18.9)
abbrev pub rejecting : {A : Type 0} → List (ServerSaid A) → RejectReason → Asked → ServerPlan A
rejecting says reason asked =
    record {
      said = says ++ said.Reject asked.way asked.asker.invoke_id reason ∷ [];
      executed = None;
      change = GivesUp asked.asker;
    }

-- an answer is said behind this and remembered, and the request executed (5.4.5.3)
abbrev pub answering : {A : Type 0} → List (ServerSaid A) → Request A → Reply A → Record A → ServerPlan A
answering says request reply r =
    record {
      said = says ++ answered_by r.sending r;
      executed = Some (record { asker = r.asker; request = request; reply = reply });
      change = Executes request r;
    }

-- a request is executed with this reply, and its answer said behind this (5.4.5.3)
abbrev pub executing : {A : Type 0} → ℕ → List (ServerSaid A) → Asked → Request A → Reply A → ServerTsmState A →
    ServerPlan A
executing now says asked request reply st =
    answering says request reply (record_of now st.max_apdu asked request reply)

-- a request is executed where there is a place for its answer; else it is aborted (5.4.5.1)
abbrev pub executing_if : {A : Type 0} → (is_full : Bool) → ℕ → List (ServerSaid A) → Asked → Request A →
    ServerTsmState A → ServerPlan A
executing_if true now says asked request st = aborting says OutOfResources asked (GivesUp asked.asker)
executing_if false now says asked request st = executing now says asked request (replied st.table request) st

-- a request that came whole: it is rejected or executed by what its service data mean
abbrev pub finished_by : {A : Type 0} → Result (Request A) RejectReason → ℕ → List (ServerSaid A) → Asked →
    ServerTsmState A → ServerPlan A
finished_by (Err reason) now says asked st = rejecting says reason asked
finished_by (Ok request) now says asked st = executing_if (is_full now st.records) now says asked request st

-- a request that came whole, where something was found in its service data; else nothing is said or executed
abbrev pub finished_with : {A : Type 0} → Option (Result (Request A) RejectReason) → ℕ → Whole A → ServerTsmState A →
    ServerPlan A
finished_with None now w st = quiet Stays
finished_with (Some found) now w st = finished_by found now w.says w.asked st

-- the other half of the step, where this is what the service data of a whole request mean
abbrev pub finished : {A : Type 0} → ℕ → Reached A → Option (Result (Request A) RejectReason) → ServerTsmState A →
    ServerPlan A
finished now (plans plan) found st = plan
finished now (completes w) found st = finished_with found now w st

-- what is said, executed and left of what a server hears, where this is what the service data of a whole request mean
abbrev pub planned : {A : Type 0} → ℕ → Origin → Heard → Option (Result (Request A) RejectReason) → ServerTsmState A →
    ServerPlan A
planned now from h found st = finished now (reached now from h st) found st
